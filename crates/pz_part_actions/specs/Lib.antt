pub mod devices
pub mod Becoming
pub mod Fitting
pub mod Homes
pub mod StatementPlaces
pub use Rattle.pz_part_queries.specs as pz_part_queries
pub use Rattle.pz_term_around.specs.pz_part_opening as pz_part_opening
pub use Rattle.pz_part_queries.specs.pz_eval as pz_eval
pub use Rattle.pz_part_queries.specs.pz_classes as pz_classes
