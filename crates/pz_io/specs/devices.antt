-- What serves proofs alone.
pub mod Places
