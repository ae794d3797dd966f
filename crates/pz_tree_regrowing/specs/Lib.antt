pub mod Costs
pub mod Regrowing
pub mod Heights
pub mod devices
pub use Rattle.pz_tree_nodes.specs as pz_tree_nodes
pub use Rattle.pz_tree_nodes.specs.pz_tree_standing as pz_tree_standing
