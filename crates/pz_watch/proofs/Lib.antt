pub mod Feeding
pub mod Latest
pub mod Lists
pub mod Points
pub mod Meanings
pub mod Views
pub mod Spelled
pub mod OperatorWords
pub mod FormulaWords
pub mod Inside
pub mod Makings
pub mod WatchLines
pub mod FileLines
mod Rows
mod LineRows
