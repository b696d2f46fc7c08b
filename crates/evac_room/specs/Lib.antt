pub mod Spot
pub mod Rows
pub mod Seen
pub mod Core
pub mod Copier
pub mod State
