pub mod Plains
pub mod devices
