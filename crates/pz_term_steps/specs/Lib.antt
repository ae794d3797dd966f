pub mod Stepping
pub mod devices
