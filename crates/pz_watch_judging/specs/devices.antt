pub mod Judging
