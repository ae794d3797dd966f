pub mod Messages
pub mod Statements
pub mod Views
pub mod Nests
