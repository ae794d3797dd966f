pub mod Asking
pub mod Saying
pub mod Reading
pub mod Debugging
pub mod Keeping
