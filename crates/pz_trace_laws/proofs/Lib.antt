pub mod Lists
pub mod Spelled
pub mod Texts
pub mod Names
pub mod Bodies
pub mod Terms
pub mod Kept
pub mod Told
