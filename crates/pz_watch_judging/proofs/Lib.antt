pub mod Halves
pub mod Judged
