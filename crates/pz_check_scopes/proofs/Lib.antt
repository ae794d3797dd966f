pub mod Values
mod Outermost
mod Keeping
mod Closing
