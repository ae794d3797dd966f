pub mod Frames
pub mod Leaves
pub mod Parts
pub mod Levels
pub mod Own
pub mod Counts
pub mod Onward
pub mod Adding
