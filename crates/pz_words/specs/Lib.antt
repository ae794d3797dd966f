pub mod Numbers
pub mod Options
pub mod Jobs
pub mod devices
