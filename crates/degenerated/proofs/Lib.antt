pub mod CopyingOut
pub mod KeptHeap
pub mod UpdatedFields
pub mod Naming
pub mod Finishing
pub mod FreedSet
