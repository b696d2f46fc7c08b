pub mod Causes
pub mod Accesses
pub mod TakeStays
mod TakeSteps
mod TakeLoads
mod TakeRegions
mod Carving
mod Filling
mod Storing
pub mod GivingBack
pub mod Takes
