pub mod Computed
pub mod Outcomes
pub mod Laws
