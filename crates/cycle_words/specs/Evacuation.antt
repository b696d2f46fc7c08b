pub mod Live
pub mod Front
pub mod Choice
pub mod Copying
pub mod Copied
pub mod Begun
pub mod Laws
