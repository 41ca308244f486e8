-- What only proofs need.
pub mod Steps
