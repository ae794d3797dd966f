pub mod Order
pub mod Least
