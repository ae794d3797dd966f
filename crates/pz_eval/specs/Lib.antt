pub use Rattle.pz_eval_machine.specs.pz_eval_operations.Known
pub mod Promises
pub mod Tentative
pub mod Parcels
pub mod Conditions
pub mod devices
pub use Rattle.pz_eval_machine.specs.pz_classes as pz_classes
