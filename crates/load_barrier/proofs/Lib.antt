pub mod Ends
pub mod Knows
pub mod Resolving
pub mod Every
pub mod Inside
pub mod Waiting
pub mod UnitWaiting
pub mod SmallAddresses
