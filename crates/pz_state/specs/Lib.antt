pub mod Objects
pub mod Faults
pub mod States
pub mod References
pub mod Marks
pub mod devices
pub use Rattle.pz_value.specs as pz_value
