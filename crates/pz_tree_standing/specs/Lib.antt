pub mod Heads
pub mod Standing
pub mod Reached
pub mod Soon
pub mod Right
pub mod Resting
pub mod Whole
pub mod Meaning
pub mod Sound
pub mod Calm
pub mod FrameCounts
pub mod Summaries
pub mod Asked
pub mod Steady
pub mod Woken
pub mod SummaryLaws
pub mod Frames
pub mod Laws
pub mod devices
pub use Rattle.pz_rules.specs as pz_rules
pub use Rattle.pz_rules.specs.pz_eval_rules as pz_eval_rules
pub use Rattle.pz_rules.specs.pz_bind_rules as pz_bind_rules
pub use Rattle.pz_rules.specs.pz_classes_rules as pz_classes_rules
pub use Rattle.pz_rules.specs.pz_classes_code as pz_classes_code
pub use Rattle.pz_rules.specs.pz_offer as pz_offer
pub use Rattle.pz_rules.specs.pz_copy as pz_copy
pub use Rattle.pz_rules.specs.pz_state as pz_state
pub use Rattle.pz_rules.specs.pz_value as pz_value
pub use Rattle.pz_rules.specs.pz_syntax as pz_syntax
