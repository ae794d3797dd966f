pub mod CodeView
pub mod Literals
pub mod StepView
pub mod Resolution
pub mod ScopeView
pub mod ReservedNames
pub mod NumberIn
pub mod Places
pub mod Listed
pub mod devices
pub use Rattle.pz_value.specs as pz_value
pub use Rattle.pz_syntax.specs as pz_syntax
