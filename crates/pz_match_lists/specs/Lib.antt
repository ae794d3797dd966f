pub mod Increasing
pub mod Shares
pub mod devices
