pub mod Control
pub mod Helper
pub mod Mutator
pub mod Machines
pub mod Begins
pub mod Ending
pub mod EndWord
pub mod Entering
