mod Kids
mod Marking
mod Tending
mod LocalClocks
mod Leaving
mod Sizes
mod Others
mod Finishing
mod ByForm
mod ShiftNodes
mod Interrupts
mod Calls
mod Openings
pub mod Shorts
mod Children
mod Rounds
mod Writes
mod HighKids
mod Highs
mod HighRounds
mod Descending
pub use Rattle.pz_tree_nodes.proofs.pz_tree_standing_proofs as pz_tree_standing_proofs
