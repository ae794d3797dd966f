pub mod Waking
pub mod Elapsing
pub mod devices
pub use Rattle.pz_tree_refreshing.specs as pz_tree_refreshing
