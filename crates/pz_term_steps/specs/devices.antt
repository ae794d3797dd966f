pub mod Deeds
pub mod Elapsing
