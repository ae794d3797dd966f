pub mod Spots
pub mod Rounds
