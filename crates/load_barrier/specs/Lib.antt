pub mod Rows
pub mod Fit
pub mod Waits
pub mod Seen
pub mod UnitRows
pub mod UnitFit
pub mod UnitEnds
pub mod Alone
