pub mod Places
pub mod devices
