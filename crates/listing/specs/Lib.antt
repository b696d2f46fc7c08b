pub mod Mirror
pub mod Repeats
