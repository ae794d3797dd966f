pub mod Sets
pub mod Shown
pub mod Inherited
pub mod Scopes
pub mod Misuses
pub mod Unsized
