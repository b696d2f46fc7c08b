pub mod Remembering
pub mod Every
