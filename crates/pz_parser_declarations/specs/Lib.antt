pub mod DeclarationPlaces
pub mod devices
pub mod ClusterPlaces
