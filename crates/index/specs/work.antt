-- What only proofs need, in the order in which one builds on the other.
pub mod Places
pub mod Checks
pub mod Bytes
pub mod Halves
pub mod Edits
pub mod Pairing
pub mod Sights
pub mod Reading
pub mod Pieces
pub mod Written
pub mod Longest
