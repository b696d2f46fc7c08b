pub mod MarkedOut
pub mod Laws
