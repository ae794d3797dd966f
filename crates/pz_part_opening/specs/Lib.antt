pub mod Bare
pub mod Homes
pub mod devices
