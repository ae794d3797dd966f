pub mod Nested
pub mod Joining
pub mod ProcessMethods
pub mod ProcessClasses
pub mod ModelRules
pub mod Erasing
pub mod Parses
mod StoppingModels
mod Cutting
mod WithoutSkip
mod CuttingExpressions
mod CuttingStatements
mod CuttingModels
mod CutTexts
mod Refusing
mod Rows
