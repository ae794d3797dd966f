pub mod Kids
pub mod Rose
pub mod Change
pub mod Reading
pub mod Dropping
pub mod Seen
pub mod Laws
