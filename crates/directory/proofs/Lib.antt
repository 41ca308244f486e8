-- What the proofs of several functions use, and the laws that are published.
pub mod Numbered
pub mod OneDirectory
pub mod OneDoor
mod Writing
pub mod Standing
pub mod DirectoryOf
pub mod ByEntry
pub mod Passing
pub mod Keeping
pub mod OneBy
pub mod InOrder
pub mod AsWithout
pub mod KeptTrue
