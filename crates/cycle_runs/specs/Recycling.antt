pub mod InHand
pub mod Held
