mod Copies
mod Kept
mod Moved
mod Short
mod Shown
mod Variables
