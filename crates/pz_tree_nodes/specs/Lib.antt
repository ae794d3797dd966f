pub mod Keeping
pub mod View
pub mod Tended
pub mod Fresh
pub mod Dropping
pub mod Planting
pub mod Seeking
pub mod Standing
pub mod Choosing
pub mod Listing
pub mod Laws
pub mod devices
pub use Rattle.pz_tree_standing.specs as pz_tree_standing
pub use Rattle.pz_rules.specs as pz_rules
pub use Rattle.pz_rules.specs.pz_eval_rules as pz_eval_rules
pub use Rattle.pz_rules.specs.pz_classes_rules as pz_classes_rules
pub use Rattle.pz_rules.specs.pz_offer as pz_offer
pub use Rattle.pz_rules.specs.pz_copy as pz_copy
pub use Rattle.pz_rules.specs.pz_state as pz_state
