pub mod Offers
pub mod Pairs
pub mod Table
pub mod Judging
pub mod devices
