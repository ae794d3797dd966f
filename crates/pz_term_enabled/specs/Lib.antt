pub mod devices
pub mod Surveyed
pub mod Looking
