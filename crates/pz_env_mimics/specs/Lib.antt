pub mod Environments
pub mod Closing
pub mod Laws
pub use Rattle.pz_env_tree.specs as pz_env_tree
pub use Rattle.pz_env_tree.specs.pz_env_rules as pz_env_rules
pub use Rattle.pz_env_tree.specs.pz_trace as pz_trace
pub use Rattle.pz_env_tree.specs.pz_rules as pz_rules
pub use Rattle.pz_env_tree.specs.pz_bind_rules as pz_bind_rules
pub use Rattle.pz_env_tree.specs.pz_classes_rules as pz_classes_rules
pub use Rattle.pz_env_tree.specs.pz_classes_code as pz_classes_code
pub use Rattle.pz_env_tree.specs.pz_check_violations as pz_check_violations
pub use Rattle.pz_env_tree.specs.pz_env_script as pz_env_script
pub use Rattle.pz_env_tree.specs.pz_state as pz_state
pub use Rattle.pz_env_tree.specs.pz_value as pz_value
pub use Rattle.pz_env_tree.specs.pz_syntax as pz_syntax
