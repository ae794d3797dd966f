pub mod Listings
pub mod Walked
pub mod Adding
pub mod Below
pub mod Seen
pub mod Judged
pub mod Communications
pub mod Deciding
