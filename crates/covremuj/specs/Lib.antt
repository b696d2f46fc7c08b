pub mod HeldSeats
pub mod StatusNumbers
pub mod Answers
pub mod Border
pub mod OpenedHandles
pub mod ClosedHandles
pub mod RenewedHandles
