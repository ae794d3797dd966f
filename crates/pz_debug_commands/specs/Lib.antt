pub mod Lines
pub mod Commands
pub mod CommandView
pub mod Texts
pub mod Laws
pub mod devices
