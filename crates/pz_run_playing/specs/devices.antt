pub mod Rests
pub mod Deciding
pub mod Hearing
pub mod Going
pub mod Known
