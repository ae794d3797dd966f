mod Lists
pub mod Numbers
mod CodedTrees
mod Named
mod Deep
mod Stable
mod Heavier
mod Outlined
pub mod Begun
mod Rests
mod Found
mod Walked
mod Locals
mod Noted
mod Once
mod Orders
mod Nexts
mod TooHigh
mod Parcels
mod OneMoment
mod Counted
mod Passings
mod Elapsed
mod Chosen
mod Finite
mod Derived
mod Moments
mod Waiting
mod WalksAre
mod Rows
mod Fits
mod Possible
mod Kept
mod Lower
mod Starts
mod Pending
mod Opens
mod Brought
mod Marks
mod StatementCounts
mod BodyNumbers
mod Sizes
mod FewOpen
mod SmallOpenings
mod Crowd
mod Room
mod Existing
mod Wires
pub mod worked
pub mod Opened
pub mod Left
mod Stepped
mod Passed
pub use Rattle.pz_offer.proofs as pz_offer_proofs
