pub mod Answering
pub mod LiteralWords
pub mod EntryWords
pub mod Lines
pub mod Texts
pub mod ScriptLines
mod Rows
