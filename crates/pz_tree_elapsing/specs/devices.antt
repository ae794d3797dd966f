pub mod Wakes
pub mod Levels
