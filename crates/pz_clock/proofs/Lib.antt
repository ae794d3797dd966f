pub mod Clocks
mod Rows
