pub mod HandedOut
pub mod devices
