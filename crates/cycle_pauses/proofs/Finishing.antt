pub mod Copying
pub mod CopyingKeeps
pub mod Updating
pub mod Serving
pub mod Leaving
pub mod Idle
pub mod Finished
pub mod CanFinish
