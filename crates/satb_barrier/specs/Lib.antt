pub mod Rows
pub mod Seen
pub mod Recorded
pub mod Facts
pub mod Alone
