-- What only proofs need.
pub mod Marks
pub mod Between
pub mod Lookup
pub mod Fronts
