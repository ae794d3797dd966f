pub mod Offers
pub mod devices
