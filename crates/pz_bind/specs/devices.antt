pub mod Namings
pub mod Bindings
pub mod Sites
pub mod Processes
pub mod Nets
