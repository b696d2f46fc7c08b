pub mod Views
pub mod Counted
pub mod Rule
pub mod Laws
pub mod Gathered
