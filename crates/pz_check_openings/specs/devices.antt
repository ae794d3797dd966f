pub mod Outlines
pub mod Settling
pub mod InClass
pub mod Suspects
pub mod Through
pub mod Heavy
