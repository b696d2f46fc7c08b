mod Lists
pub mod Stages
mod Digits
mod Fronts
