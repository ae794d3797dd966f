pub mod Flags
pub mod devices
