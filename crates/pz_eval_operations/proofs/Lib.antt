pub mod Absent
pub mod Applied
pub mod Views
pub mod Worth
pub mod Counted
pub mod Replied
