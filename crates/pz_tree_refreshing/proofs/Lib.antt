pub mod Reaching
pub mod Sums
pub mod Gates
mod Statements
pub mod Short
pub mod Kids
pub mod Levels
mod Rows
pub use Rattle.pz_tree_nodes.proofs as pz_tree_nodes_proofs
pub use Rattle.pz_tree_nodes.proofs.pz_tree_standing_proofs as pz_tree_standing_proofs
pub use Rattle.pz_tree_nodes.proofs.pz_offer_proofs as pz_offer_proofs
