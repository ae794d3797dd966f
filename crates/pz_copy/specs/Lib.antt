pub mod References
pub mod Parcels
pub mod Packing
pub mod Unpacking
pub mod Sharing
pub mod ParcelText
pub mod devices
pub use Rattle.pz_state.specs as pz_state
pub use Rattle.pz_state.specs.pz_value as pz_value
