pub mod Known
pub mod Advanced
pub mod Searching
pub mod Answering
