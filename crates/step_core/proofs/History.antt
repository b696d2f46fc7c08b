pub mod Entries
pub mod Growing
pub mod Crowding
pub mod CrowdsGrow
pub mod NoFull
pub mod Settling
pub mod Replies
pub mod Owing
