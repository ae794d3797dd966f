pub mod FrameTables
pub mod StoredStates
pub mod Changes
pub mod Journals
pub mod Spots
pub mod Fields
