mod Linking
mod OwnWires
pub mod Each
mod Left
mod Wired
mod Kept
mod Walked
mod Pairs
mod Places
mod Connected
mod Reading
mod Rows
