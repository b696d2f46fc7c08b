pub mod Marking
pub mod Evacuation
pub mod Updating
pub mod Finishing
pub mod StillHolds
