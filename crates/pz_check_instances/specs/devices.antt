pub mod NameSets
pub mod Open
pub mod ClassRows
pub mod Given
pub mod Needs
pub mod Ends
pub mod Search
pub mod Inside
