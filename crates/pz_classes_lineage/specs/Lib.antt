pub mod Parents
pub mod Reached
pub mod Preorder
pub mod devices
