pub mod Gathered
pub mod Listings
pub mod Renaming
pub mod Objects
pub mod Unpacked
pub mod Texts
pub mod Parcelled
pub mod Steps
pub mod Rows
pub use Rattle.pz_state.proofs as pz_state_proofs
