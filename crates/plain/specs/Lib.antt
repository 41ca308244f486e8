-- What the support desk reads.
pub mod Plain
-- What only proofs need.
pub mod work
