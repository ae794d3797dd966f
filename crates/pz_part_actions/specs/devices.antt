pub mod Effects
pub mod Parts
pub mod Calls
pub mod Standing
pub mod Openings
