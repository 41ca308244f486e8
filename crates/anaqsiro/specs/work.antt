-- What only proofs need.
pub mod Answered
