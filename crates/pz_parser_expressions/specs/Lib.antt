pub mod ExpressionPlaces
pub mod devices
