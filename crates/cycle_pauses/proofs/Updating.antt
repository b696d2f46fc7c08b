pub mod Beginning
pub mod Freeing
pub mod Ending
pub mod Outside
pub mod Unpinned
