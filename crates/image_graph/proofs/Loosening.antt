pub mod Resized
pub mod DividedPieces
pub mod Loosened
pub mod OneBuffer
pub mod AllSettled
pub mod AllLetGo
pub mod Laws
pub mod BuffersInside
