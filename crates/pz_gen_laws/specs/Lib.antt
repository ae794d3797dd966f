pub mod Rings
pub mod devices
