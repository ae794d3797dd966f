pub mod Found
mod Rows
mod Worked
pub mod Agreeing
pub mod Within
pub mod Further
pub mod MethodCounts
mod Reaching
pub mod Acyclic
pub mod Rounds
pub mod Turned
pub mod Elements
pub mod Apart
mod SoundInstances
mod SoundEnds
mod SoundSystem
pub mod Heirs
mod SoundClasses
pub mod MethodBodies
mod Mentioned
mod SoundBodies
mod WorkedBodies
mod Weights
pub mod FewMarks
mod SoundNumbers
