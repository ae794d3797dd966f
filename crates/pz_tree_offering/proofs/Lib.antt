pub mod Each
pub mod Sent
pub mod Received
