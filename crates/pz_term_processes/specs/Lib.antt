pub mod Standing
pub mod Starting
pub mod devices
pub use Rattle.pz_part_actions.specs as pz_part_actions
pub use Rattle.pz_part_actions.specs.pz_part_queries as pz_part_queries
pub use Rattle.pz_part_actions.specs.pz_part_opening as pz_part_opening
pub use Rattle.pz_rules.specs as pz_rules
pub use Rattle.pz_part_actions.specs.pz_eval as pz_eval
