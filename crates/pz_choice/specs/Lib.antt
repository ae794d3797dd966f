pub mod SeededWords
pub mod Resolvers
pub mod Choosers
