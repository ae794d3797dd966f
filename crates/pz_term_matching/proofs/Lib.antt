pub mod Firsts
pub mod Chained
pub mod Walking
pub mod Turning
pub mod Paired
