pub mod Deeds
pub mod Acting
pub mod devices
pub use Rattle.pz_tree_regrowing.specs as pz_tree_regrowing
pub use Rattle.pz_tree_regrowing.specs.pz_tree_nodes as pz_tree_nodes
pub use Rattle.pz_tree_regrowing.specs.pz_tree_standing as pz_tree_standing
