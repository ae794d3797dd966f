pub mod Outcomes
pub mod Numerals
pub mod Lists
pub mod Subjects
pub mod Heard
pub mod Settings
pub mod Asked
