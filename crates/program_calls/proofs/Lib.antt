pub mod Schedules
pub mod Replays
pub mod Statuses
pub mod Reports
pub mod CallParts
