pub mod Marks
pub mod Init
pub mod Close
pub mod WhileMarking
pub mod Final
pub mod Laws
