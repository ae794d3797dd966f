pub mod Tables
pub mod Refusals
pub mod CheckedView
pub mod devices
pub use Rattle.pz_classes_rules.specs as pz_classes_rules
pub use Rattle.pz_classes_code.specs as pz_classes_code
pub use Rattle.pz_check_violations.specs as pz_check_violations
pub use Rattle.pz_classes_code.specs.pz_value as pz_value
pub use Rattle.pz_classes_code.specs.pz_syntax as pz_syntax
