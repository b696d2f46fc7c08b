pub mod Machines
pub mod Helpers
pub mod History
pub mod Mutators
pub mod Handshake
pub mod Control
pub mod Theorem
