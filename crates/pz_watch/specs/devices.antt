pub mod Memory
pub mod MonitorView
pub mod Standing
pub mod Operators
pub mod Making
pub mod Taking
