pub mod Core
pub mod MachineUnder
pub mod Said
pub mod Stepping
pub mod Opened
pub mod Closing
pub mod Graphs
pub mod Jobs
pub mod AtWork
pub mod Running
pub mod Turning
mod Calling
pub mod NamesLeft
mod NoOrder
pub mod DriverLemmas
pub mod AtDriver
pub mod Counting
pub mod Driving
pub mod Rounds
pub mod Starting
pub mod Ended
pub mod StepCounts
pub mod Greyed
pub mod Hinting
pub mod Inside
pub mod HintTotals
pub mod Thieves
pub mod Keeping
