-- What only proofs need.
pub mod Listed
