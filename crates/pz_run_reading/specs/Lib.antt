pub mod Models
pub mod Refusals
pub mod Openings
pub mod Sizes
pub mod Answers
pub mod Laws
pub mod devices
