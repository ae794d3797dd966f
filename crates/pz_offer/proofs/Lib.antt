pub mod Joins
mod Rows
pub use Rattle.pz_copy.proofs as pz_copy_proofs
