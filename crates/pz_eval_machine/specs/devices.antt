pub mod Tasks
pub mod Steps
pub mod Within
pub mod Weights
pub mod Turns
