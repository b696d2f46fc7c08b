pub mod Walks
pub mod Changes
pub mod Units
pub mod Parts
