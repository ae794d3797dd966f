pub mod Among
pub mod Cutting
pub mod IdentifierWords
pub mod Numerals
pub mod Splits
pub mod HandedOn
