-- What only proofs need.
pub mod Tested
pub mod Trails
