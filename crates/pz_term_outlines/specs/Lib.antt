pub mod Capped
pub mod Outlines
