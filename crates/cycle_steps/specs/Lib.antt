pub mod Recording
pub mod Scanning
pub mod Laws
pub mod Chains
pub mod Resolving
pub mod Evacuation
pub mod Updating
