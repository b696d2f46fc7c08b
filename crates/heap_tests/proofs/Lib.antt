mod Counts
pub mod LeftAtRest
pub mod SharedHeap
mod TwoThreads
pub mod TurnsAgain
pub mod FirstScenes
