pub mod Tops
pub mod Expanded
pub mod Walking
