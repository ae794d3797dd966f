pub mod Terms
pub mod Settings
pub mod FrameNumbers
pub mod Framing
pub mod Opening
pub mod Shallow
pub mod Meanings
pub mod Evaluations
pub mod Active
pub mod Places
pub mod Methods
pub mod InternalActions
pub mod Leaving
pub mod Messages
pub mod Acting
pub mod Asking
pub mod Delays
pub mod Configurations
pub mod Ports
pub mod Offers
pub mod Steps
pub mod Moments
pub mod Runs
pub mod ChosenRuns
pub mod Starting
pub mod Fitting
pub mod Heights
pub mod Clocks
pub mod RestView
pub mod View
pub mod Openable
pub mod CallLaws
pub mod Becoming
pub mod Short
pub mod DelayLaws
pub mod devices
pub mod Laws
pub use Rattle.pz_eval_rules.specs as pz_eval_rules
pub use Rattle.pz_bind_rules.specs as pz_bind_rules
pub use Rattle.pz_bind_rules.specs.pz_classes_rules as pz_classes_rules
pub use Rattle.pz_bind_rules.specs.pz_classes_code as pz_classes_code
pub use Rattle.pz_bind_rules.specs.pz_check_violations as pz_check_violations
pub use Rattle.pz_offer.specs as pz_offer
pub use Rattle.pz_offer.specs.pz_copy as pz_copy
pub use Rattle.pz_offer.specs.pz_state as pz_state
pub use Rattle.pz_bind_rules.specs.pz_value as pz_value
pub use Rattle.pz_bind_rules.specs.pz_syntax as pz_syntax
