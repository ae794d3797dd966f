pub mod Steps
pub mod Sessions
pub mod Refusals
pub mod Laws
pub mod devices
