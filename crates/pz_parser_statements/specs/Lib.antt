pub mod StatementPlaces
pub mod devices
