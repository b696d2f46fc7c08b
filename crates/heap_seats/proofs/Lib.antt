pub mod Known
pub mod Stepped
pub mod Histories
pub mod MadeSteps
pub mod Loops
pub mod OrderRefusals
pub mod Opened
pub mod Joined
pub mod Together
mod Merely
pub mod LeftGraphs
pub mod Followed
pub mod LeftMachines
