pub mod Elements
pub mod Numbers
pub mod WaysUp
pub mod Alike
pub mod Behind
pub mod Parents
pub mod Kept
pub mod Paths
