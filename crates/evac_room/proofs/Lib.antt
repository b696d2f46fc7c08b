pub mod OneStep
pub mod Spots
pub mod Every
pub mod Memory
pub mod Bits
