mod Asked
pub mod Inside
pub mod Verdicts
