pub mod Nodes
pub mod Levels
pub mod LeadingBack
pub mod Oversized
pub mod Counting
