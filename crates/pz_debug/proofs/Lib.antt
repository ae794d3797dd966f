pub mod Sayings
pub mod Unread
pub mod Keeps
pub mod TwoFiles
pub mod Asked
pub mod Started
