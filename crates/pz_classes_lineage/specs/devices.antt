pub mod Walks
pub mod Rows
