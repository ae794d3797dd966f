pub mod Gathering
pub mod Filling
pub mod Contents
