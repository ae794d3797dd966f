mod Leasts
mod Lines
mod Entries
mod Gets
mod RowLookups
mod Scopes
mod Belongs
mod Counting
mod Overloads
mod Numbered
mod Merely
mod InstanceClasses
mod Walked
mod Inheriting
mod Filling
mod Extending
mod Building
mod FewMembers
mod StartCalls
pub use Rattle.pz_classes_rules.proofs as pz_classes_rules_proofs
pub use Rattle.pz_check_violations.proofs as pz_check_violations_proofs
