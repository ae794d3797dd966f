mod Rows
pub mod Lists
pub mod Linked
pub mod Layouts
pub mod Sorts
pub mod Spots
mod LevelFits
mod Named
pub mod Ends
pub mod Wired
pub use Rattle.pz_classes_rules.proofs as pz_classes_rules_proofs
