pub mod Standpoints
pub mod Parcels
pub mod devices
pub mod Parts
pub mod Laws
pub use Rattle.pz_eval.specs as pz_eval
pub use Rattle.pz_eval.specs.pz_classes as pz_classes
