pub mod Trees
pub mod Asking
pub mod Acting
pub mod Deeds
pub mod devices
pub use Rattle.pz_term_processes.specs as pz_term_processes
pub use Rattle.pz_tree_acting.specs.pz_tree_regrowing as pz_tree_regrowing
pub use Rattle.pz_tree_offering.specs as pz_tree_offering
pub use Rattle.pz_tree_acting.specs.pz_tree_nodes as pz_tree_nodes
pub use Rattle.pz_tree_acting.specs.pz_tree_standing as pz_tree_standing
