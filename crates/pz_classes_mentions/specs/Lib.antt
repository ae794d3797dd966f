pub mod Expressions
pub mod Statements
pub mod Declarations
pub mod Words
pub mod Stretches
