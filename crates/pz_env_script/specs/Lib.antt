pub mod Literals
pub mod Entries
pub mod Scripts
pub mod Laws
pub mod devices
