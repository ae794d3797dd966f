pub mod PlaceOrder
pub mod Summaries
pub use Rattle.pz_copy.specs as pz_copy
pub use Rattle.pz_copy.specs.pz_state as pz_state
