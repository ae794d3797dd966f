pub mod LookAhead
pub mod Input
pub mod Device
pub mod Lists
pub mod Names
