-- What the support desk reads.
pub mod Printed
pub mod Promised
-- What only proofs need.
pub mod work
