pub mod Marking
pub mod Evacuation
pub mod Recycling
