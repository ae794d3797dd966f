pub mod Numbers
pub mod Ancestors
pub mod Members
pub mod Methods
pub mod Bodies
pub mod Starts
pub mod BodyView
pub mod Violations
pub mod Preorder
pub mod ClassNames
pub mod Kinds
pub mod Words
pub mod Instances
pub mod NameRules
pub mod CallRules
pub mod WordRules
pub mod RepeatRules
pub mod InstanceRules
pub mod ChannelRules
pub mod SizeRules
pub mod Soundness
pub mod Reached
pub mod Apart
pub mod SoundSystem
pub mod SoundClasses
pub mod MethodBodies
pub mod FitBodies
pub mod SoundBodies
pub mod SoundNumbers
pub mod devices
pub use Rattle.pz_classes_code.specs as pz_classes_code
pub use Rattle.pz_check_violations.specs as pz_check_violations
pub use Rattle.pz_classes_code.specs.pz_value as pz_value
pub use Rattle.pz_classes_code.specs.pz_syntax as pz_syntax
