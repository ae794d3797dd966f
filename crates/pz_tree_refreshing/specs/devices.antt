pub mod Reached
pub mod Asked
pub mod Levels
