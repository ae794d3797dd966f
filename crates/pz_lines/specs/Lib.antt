pub mod Words
pub mod Identifiers
pub mod Numbers
pub mod devices
