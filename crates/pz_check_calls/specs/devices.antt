pub mod LeadingBack
pub mod Raising
