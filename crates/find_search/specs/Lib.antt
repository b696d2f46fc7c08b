pub mod Courses
pub mod Lone
pub mod Judged
