pub mod Lines
pub use Rattle.pz_run_reading.specs as pz_run_reading
