pub mod Spots
pub mod Queue
pub mod Machines
pub mod Users
pub mod Shares
pub mod Live
pub mod Workload
