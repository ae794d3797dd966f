pub mod Keeping
pub mod Levels
pub mod Rounds
pub mod Reading
pub mod Outlining
