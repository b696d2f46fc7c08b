pub mod ViewsShow
pub mod Dealt
pub mod Closing
pub mod Rules
pub mod Dealing
pub mod ChangeHands
pub mod Kept
pub mod Numbers
pub mod Reached
pub mod Counted
mod Tables
mod Crossing
mod Spared
mod Reading
