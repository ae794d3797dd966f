pub mod Graph
pub mod devices
