pub mod Known
pub mod devices
pub use Rattle.pz_eval_rules.specs as pz_eval_rules
pub use Rattle.pz_classes.specs as pz_classes
