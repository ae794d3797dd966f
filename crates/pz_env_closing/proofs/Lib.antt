pub mod Texts
pub mod Chosen
pub mod SameRuns
