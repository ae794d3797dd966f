pub mod MethodIn
pub mod Surrounding
pub mod Inherited
pub mod Fronts
pub mod Found
pub mod Rows
