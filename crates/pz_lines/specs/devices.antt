pub mod Lacking
pub mod Plain
