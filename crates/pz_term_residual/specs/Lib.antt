pub mod Laws
pub mod devices
