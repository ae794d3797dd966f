pub mod Symbols
pub mod WrittenTokens
pub mod Joined
pub mod LayoutCut
pub mod ReadPieces
pub mod ReadBack
pub mod Putting
pub mod Models
pub mod ModelsBack
mod Rows
