pub mod Absent
mod Bound
