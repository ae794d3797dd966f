pub mod Environment
pub mod Ends
pub mod Joining
pub mod Driven
pub mod Offers
pub mod Moments
pub mod Steps
pub mod Runs
pub mod ChosenRuns
pub mod Text
pub mod Laws
pub use Rattle.pz_trace.specs as pz_trace
pub use Rattle.pz_trace.specs.pz_rules as pz_rules
pub use Rattle.pz_trace.specs.pz_eval_rules as pz_eval_rules
pub use Rattle.pz_trace.specs.pz_bind_rules as pz_bind_rules
pub use Rattle.pz_trace.specs.pz_classes_rules as pz_classes_rules
pub use Rattle.pz_trace.specs.pz_classes_code as pz_classes_code
pub use Rattle.pz_trace.specs.pz_check_violations as pz_check_violations
pub use Rattle.pz_env_script.specs as pz_env_script
pub use Rattle.pz_trace.specs.pz_offer as pz_offer
pub use Rattle.pz_trace.specs.pz_copy as pz_copy
pub use Rattle.pz_trace.specs.pz_state as pz_state
pub use Rattle.pz_trace.specs.pz_value as pz_value
pub use Rattle.pz_trace.specs.pz_syntax as pz_syntax
