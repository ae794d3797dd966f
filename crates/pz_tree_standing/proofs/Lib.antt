pub mod Meaning
pub mod Passing
pub mod Still
pub mod Onward
pub mod Reached
pub mod Soon
pub mod Unwoken
pub mod Depths
pub mod Resting
pub mod Written
pub mod Kids
pub mod FrameCounts
mod Rows
pub mod Tallies
pub mod Unasked
pub mod Steady
pub mod Woken
mod SummaryRows
mod Primitives
mod Evaluating
mod Opening
mod Deeds
mod Sweeping
mod Numbered
mod Starting
mod Elapsing
pub use Rattle.pz_rules.proofs as pz_rules_proofs
pub use Rattle.pz_rules.proofs.pz_offer_proofs as pz_offer_proofs
