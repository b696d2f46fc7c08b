pub mod Count
pub mod Memory
pub mod Adapter
pub mod Sending
