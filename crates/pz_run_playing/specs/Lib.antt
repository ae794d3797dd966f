pub mod Policies
pub mod Endings
pub mod RunText
pub mod Sayings
pub mod Summaries
pub mod Menus
pub mod Playing
pub mod Watched
pub mod Laws
pub mod devices
pub use Rattle.pz_watch_points.specs as pz_watch_points
pub use Rattle.pz_watch_points.specs.pz_trace as pz_trace
pub use Rattle.pz_rules.specs as pz_rules
pub use Rattle.pz_term_simulator.specs as pz_term_simulator
