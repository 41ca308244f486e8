-- What the support desk reads.
pub mod Slip
pub mod Calls
-- What only proofs need.
pub mod work
