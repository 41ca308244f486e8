-- What only proofs need.
pub mod Entries
