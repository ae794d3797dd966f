pub mod OnePoint
pub mod Present
pub mod Order
pub mod Shown
pub mod Rows
