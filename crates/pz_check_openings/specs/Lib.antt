pub mod Answers
pub mod devices
