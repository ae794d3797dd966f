mod Merely
pub mod Calm
mod Found
mod Frames
mod Marked
mod Begins
mod Finished
pub use Rattle.pz_tree_regrowing.proofs as pz_tree_regrowing_proofs
