pub mod Settled
pub mod EachPause
pub mod Collected
pub mod Indices
pub mod ByParts
pub mod Fills
