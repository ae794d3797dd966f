pub mod Simulations
pub mod Shown
pub mod Refusals
pub mod Laws
pub mod devices
