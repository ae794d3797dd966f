pub mod Processes
pub mod Models
pub mod Refused
pub mod Beginnings
