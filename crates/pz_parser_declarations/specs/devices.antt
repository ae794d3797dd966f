pub mod Sections
pub mod DataClasses
pub mod Clusters
