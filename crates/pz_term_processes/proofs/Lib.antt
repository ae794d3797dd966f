mod Given
mod First
mod ProcessClasses
mod Beginnings
mod Starts
pub use Rattle.pz_part_actions.proofs as pz_part_actions_proofs
