pub mod Judged
pub mod JudgeState
