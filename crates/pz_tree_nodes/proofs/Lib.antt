pub mod Wakings
pub mod Joins
pub mod Blind
pub mod Marks
mod Falling
mod Made
mod Tending
mod Forming
mod Keeping
mod Shown
mod Rules
mod PlantingRows
pub mod Levels
pub mod Ways
pub mod Plants
pub mod Cut
pub mod Tops
pub mod Lengths
pub mod Heights
pub mod Onward
pub mod Going
pub mod Added
pub mod Listed
mod SeekingRows
pub use Rattle.pz_tree_standing.proofs as pz_tree_standing_proofs
pub use Rattle.pz_rules.proofs.pz_offer_proofs as pz_offer_proofs
