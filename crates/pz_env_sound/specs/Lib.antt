pub mod MayClose
pub mod Laws
