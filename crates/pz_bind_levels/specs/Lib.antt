pub mod Layouts
pub mod Places
pub mod Wires
pub mod Connections
pub mod devices
