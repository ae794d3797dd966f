pub mod Bits
pub mod Marks
pub mod RingBits
pub mod RingTree
pub mod RingParts
