pub mod Walking
pub mod IsWalk
