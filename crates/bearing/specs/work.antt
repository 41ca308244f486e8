-- What only proofs need.
pub mod Telling
