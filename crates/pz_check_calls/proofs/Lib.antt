mod Backs
pub mod LeadingBack
mod Sums
pub mod Raisings
