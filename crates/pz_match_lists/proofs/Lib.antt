pub mod Inserting
pub mod Summing
pub mod Parting
