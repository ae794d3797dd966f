pub mod Calls
pub mod devices
