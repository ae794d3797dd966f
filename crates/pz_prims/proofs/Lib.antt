pub mod Found
pub mod Named
pub mod Operators
pub mod Numbers
pub mod Outcomes
pub mod Keeping
pub mod Within
