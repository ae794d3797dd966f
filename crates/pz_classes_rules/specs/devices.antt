pub mod ViolationList
pub mod Rounds
