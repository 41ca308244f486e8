-- What the support desk reads.
pub mod Bearing
pub mod EqualAnswers
-- What only proofs need.
pub mod work
