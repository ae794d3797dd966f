pub mod Live
pub mod Refreshing
pub mod devices
pub use Rattle.pz_part_queries.specs as pz_part_queries
pub use Rattle.pz_tree_nodes.specs as pz_tree_nodes
pub use Rattle.pz_tree_nodes.specs.pz_tree_standing as pz_tree_standing
pub use Rattle.pz_tree_nodes.specs.pz_rules as pz_rules
pub use Rattle.pz_part_queries.specs.pz_eval as pz_eval
pub use Rattle.pz_tree_nodes.specs.pz_eval_rules as pz_eval_rules
pub use Rattle.pz_tree_nodes.specs.pz_classes_rules as pz_classes_rules
pub use Rattle.pz_tree_nodes.specs.pz_offer as pz_offer
pub use Rattle.pz_tree_nodes.specs.pz_state as pz_state
