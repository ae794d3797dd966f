pub mod devices
