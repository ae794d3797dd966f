pub mod Methods
pub mod Openings
pub mod OpeningRules
