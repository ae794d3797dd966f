mod Places
mod States
pub mod Walks
mod Passing
mod Costs
mod Opening
mod Closing
mod Steps
mod Ends
