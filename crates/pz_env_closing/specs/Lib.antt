pub mod DrivenRuns
pub mod Laws
pub use Rattle.pz_run_playing.specs as pz_run_playing
pub use Rattle.pz_run_playing.specs.pz_watch_points as pz_watch_points
pub use Rattle.pz_env.specs as pz_env
pub use Rattle.pz_env_sound.specs as pz_env_sound
pub use Rattle.pz_env_joined.specs.pz_env_mimics as pz_env_mimics
pub use Rattle.pz_env_joined.specs.pz_env_tree as pz_env_tree
pub use Rattle.pz_env_joined.specs.pz_env_rules as pz_env_rules
pub use Rattle.pz_env_joined.specs.pz_env_script as pz_env_script
