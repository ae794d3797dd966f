pub mod Spellings
pub mod Writing
pub mod Lines
pub mod Levels
pub mod Blanks
pub mod Layout
pub mod ReadingBack
