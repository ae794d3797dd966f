pub mod Scopes
pub mod devices
