pub mod Events
pub mod Memory
pub mod Turns
pub mod Noted
pub mod Settles
pub mod Noting
pub mod Counting
pub mod Swapped
pub mod Going
mod Keeps
pub mod Calls
pub mod Rounds
pub mod Fresh
mod Graphs
mod FromImage
mod Halted
mod Inside
mod PauseRounds
pub mod Stepping
pub mod Finding
pub mod Items
pub mod Walking
pub mod WalkEnds
pub mod Anew
