pub mod Shadowed
mod Taken
