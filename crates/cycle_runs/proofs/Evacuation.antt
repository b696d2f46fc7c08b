pub mod Writes
pub mod Sparing
pub mod Runs
pub mod OneEvent
pub mod Due
