pub mod PauseWords
pub mod StepsKeep
pub mod Shaking
pub mod Still
pub mod Obeying
pub mod Counting
pub mod Beginnings
pub mod Ending
