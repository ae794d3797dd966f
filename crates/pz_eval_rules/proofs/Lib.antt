pub mod Complete
pub mod Sound
pub mod Exact
pub mod Rows
pub mod Turns
pub mod Timeless
pub mod DataMethods
pub mod SameFound
