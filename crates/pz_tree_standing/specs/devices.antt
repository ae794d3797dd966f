pub mod Written
pub mod Tallies
pub mod SummaryLaws
pub mod Laws
