pub mod Turns
mod GoesOn
pub mod Replies
pub mod Names
pub mod OnScript
pub mod Openings
pub mod RestedGraph
pub mod Pauses
pub mod Fit
mod Awaiting
pub mod Inside
pub mod Hinting
pub mod FromImages
pub mod Placed
pub mod Rested
mod Stored
pub mod ComeToRest
