pub mod Events
pub mod UnitSteps
pub mod Stable
pub mod GoOn
pub mod Units
pub mod Quiet
