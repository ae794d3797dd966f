pub mod Known
pub mod Fronts
pub mod Readiness
pub mod Taking
pub mod Judging
pub mod Progress
