-- What only proofs need.
pub mod Room
