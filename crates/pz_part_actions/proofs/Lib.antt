mod Forms
mod Becomings
mod Openings
mod Performed
mod Methods
mod Calls
mod Messages
pub mod StatementPlaces
pub mod Statements
pub mod Higher
