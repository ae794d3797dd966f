pub mod Order
pub mod Leasts
pub mod Members
pub mod TwoLeasts
