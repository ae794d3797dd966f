pub mod Lines
pub mod Fronts
pub mod Refusals
pub mod Stages
pub mod Expected
pub mod Replays
pub mod Laws
pub mod devices
