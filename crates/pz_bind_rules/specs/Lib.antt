pub mod Nest
pub mod Names
pub mod Values
pub mod Connections
pub mod Wires
pub mod devices
pub use Rattle.pz_classes_rules.specs as pz_classes_rules
pub use Rattle.pz_classes_rules.specs.pz_classes_code as pz_classes_code
pub use Rattle.pz_classes_rules.specs.pz_check_violations as pz_check_violations
pub use Rattle.pz_classes_rules.specs.pz_value as pz_value
pub use Rattle.pz_classes_rules.specs.pz_syntax as pz_syntax
