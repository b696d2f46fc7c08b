pub mod Updated
pub mod Copies
pub mod Finish
pub mod Laws
