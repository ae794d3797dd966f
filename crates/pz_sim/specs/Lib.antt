pub mod Members
pub mod Sims
pub mod Costs
pub mod devices
pub use Rattle.pz_term_simulator.specs as pz_term_simulator
