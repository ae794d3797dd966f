pub mod Borrowed
pub mod Numbered
pub mod Questions
pub mod Speaking
pub mod Tables
pub mod Holding
pub mod Acting
pub mod Passing
