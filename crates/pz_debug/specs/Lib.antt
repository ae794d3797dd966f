pub mod Limits
pub mod Asked
pub mod Files
pub mod Status
pub mod Output
pub mod Promises
pub mod devices
