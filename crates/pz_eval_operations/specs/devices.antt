pub mod Sites
pub mod Within
pub mod Telling
pub mod Views
pub mod AtOnce
pub mod Replies
