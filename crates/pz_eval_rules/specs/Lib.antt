pub mod Memories
pub mod Answers
pub mod Steps
pub mod Evaluation
pub mod Outcomes
pub mod Clocks
pub mod Laws
pub mod devices
