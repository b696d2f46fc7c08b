pub mod Collect
pub mod Steps
pub mod Result
