pub mod Clear
pub mod Starts
pub mod Image
pub mod Seen
pub mod Fit
-- what a pause does, for those who say it of the heap
pub use Rattle.cycle_pauses.specs.Collect
