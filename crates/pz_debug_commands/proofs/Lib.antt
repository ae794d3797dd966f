pub mod Cuts
pub mod Numerals
pub mod Words
pub mod Spelled
pub mod Lines
pub mod Rows
