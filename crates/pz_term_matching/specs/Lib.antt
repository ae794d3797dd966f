pub mod Matches
pub mod devices
