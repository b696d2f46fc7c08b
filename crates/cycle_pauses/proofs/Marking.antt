pub mod FromSnapshot
pub mod Beginning
pub mod Ending
pub mod WhileMarking
pub mod Outside
