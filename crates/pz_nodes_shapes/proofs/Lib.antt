pub mod Frames
pub mod Readings
pub mod Sizes
pub mod Drops
pub mod Seen
mod Rows
