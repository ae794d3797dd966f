pub mod Refusing
mod Rows
pub use Rattle.pz_env_rules.proofs as pz_env_rules_proofs
