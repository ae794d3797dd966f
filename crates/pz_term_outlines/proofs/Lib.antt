pub mod Capping
mod Outlined
mod Rounds
pub mod Beside
