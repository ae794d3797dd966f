pub mod Judging
pub mod Driving
pub mod Handing
