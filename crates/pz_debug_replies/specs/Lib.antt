pub mod Lines
pub mod Shown
pub mod Advancing
pub mod Replies
pub mod Sessions
pub mod Replying
pub mod Laws
pub mod devices
