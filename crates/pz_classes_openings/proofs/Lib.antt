pub mod Found
pub mod Resolved
