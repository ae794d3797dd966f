pub mod Sums
pub mod devices
