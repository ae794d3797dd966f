pub mod Names
pub mod EnvironmentClass
pub mod ClosedTree
pub mod Refusals
pub mod Laws
pub mod devices
pub use Rattle.pz_env_rules.specs as pz_env_rules
pub use Rattle.pz_env_rules.specs.pz_trace as pz_trace
pub use Rattle.pz_env_rules.specs.pz_rules as pz_rules
pub use Rattle.pz_env_rules.specs.pz_eval_rules as pz_eval_rules
pub use Rattle.pz_env_rules.specs.pz_bind_rules as pz_bind_rules
pub use Rattle.pz_env_rules.specs.pz_classes_rules as pz_classes_rules
pub use Rattle.pz_env_rules.specs.pz_classes_code as pz_classes_code
pub use Rattle.pz_env_rules.specs.pz_check_violations as pz_check_violations
pub use Rattle.pz_env_rules.specs.pz_env_script as pz_env_script
pub use Rattle.pz_env_rules.specs.pz_offer as pz_offer
pub use Rattle.pz_env_rules.specs.pz_copy as pz_copy
pub use Rattle.pz_env_rules.specs.pz_state as pz_state
pub use Rattle.pz_env_rules.specs.pz_value as pz_value
pub use Rattle.pz_env_rules.specs.pz_syntax as pz_syntax
