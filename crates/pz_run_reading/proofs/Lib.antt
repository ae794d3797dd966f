pub mod Causes
pub mod FewMarks
pub mod Merely
pub mod Opened
pub mod Trees
pub mod Found
pub mod OneModel
mod Rows
