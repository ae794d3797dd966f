pub mod EventPoints
pub mod Shown
pub mod Present
pub mod Laws
pub use Rattle.pz_trace.specs as pz_trace
