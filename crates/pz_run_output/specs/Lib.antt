pub mod Limits
pub mod Words
pub mod Files
pub mod Status
pub mod Plays
pub mod Scripts
pub mod Editions
pub mod Output
pub mod Promises
pub mod Formats
pub mod devices
pub use Rattle.pz_env_closing.specs as pz_env_closing
pub use Rattle.pz_trace.specs as pz_trace
pub use Rattle.pz_run_lines.specs as pz_run_lines
pub use Rattle.pz_run_replaying.specs as pz_run_replaying
pub use Rattle.pz_lines.specs as pz_lines
pub use Rattle.pz_classes_openings.specs as pz_classes_openings
