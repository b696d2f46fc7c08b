pub mod Collect
pub mod Laws
