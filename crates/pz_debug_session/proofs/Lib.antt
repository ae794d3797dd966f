pub mod Roads
pub mod Placed
