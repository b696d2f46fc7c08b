pub mod LiveSums
pub mod HeldOnce
pub mod HeldFound
pub mod Full
pub mod Outcomes
pub mod Taking
pub mod Verdicts
pub mod Texts
pub mod ScriptsLeft
mod SameCommands
mod Accepted
