pub mod devices
pub use Rattle.pz_eval_operations.specs as pz_eval_operations
pub use Rattle.pz_eval_operations.specs.pz_eval_rules as pz_eval_rules
pub use Rattle.pz_eval_operations.specs.pz_classes as pz_classes
