pub mod Runs
pub mod Classes
pub mod Steps
pub mod WordSteps
pub mod NumberSteps
pub mod CommentSteps
pub mod QuotedSteps
pub mod SymbolSteps
pub mod FirstStep
pub mod Cuts
mod TokenCounts
pub mod RunCounts
pub mod Spelled
pub mod ReadSteps
pub mod NumberReads
pub mod SymbolReads
pub mod CommentReads
pub mod QuotedReads
pub mod PlaceReads
pub mod FirstReads
pub mod HeadSteps
pub mod HeadMarks
pub mod CutReads
pub mod Trimming
mod Rows
