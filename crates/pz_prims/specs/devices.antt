pub mod Entries
pub mod Operators
pub mod Staying
