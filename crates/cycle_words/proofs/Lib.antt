pub mod Pinned
pub mod Marking
pub mod Evacuation
pub mod Updating
pub mod Finishing
