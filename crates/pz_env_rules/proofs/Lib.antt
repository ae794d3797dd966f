pub mod Alone
pub mod EnvironmentAlone
pub mod WorkedSystem
mod Rows
mod RunRows
