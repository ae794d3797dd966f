pub mod Closing
pub mod devices
