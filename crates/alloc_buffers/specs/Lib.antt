pub mod Rows
pub mod Room
pub mod Seen
pub mod Facts
pub mod Waits
