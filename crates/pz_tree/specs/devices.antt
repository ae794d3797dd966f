pub mod Kept
pub mod Receiving
pub mod Resting
pub mod Wires
