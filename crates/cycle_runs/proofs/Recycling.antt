pub mod Free
pub mod PartHands
pub mod Mutators
pub mod Runs
pub mod Taken
