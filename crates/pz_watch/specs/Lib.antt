pub mod Points
pub mod SpotView
pub mod Formulas
pub mod Words
pub mod Files
pub mod Breaking
pub mod Laws
pub mod devices
