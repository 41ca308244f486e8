-- What the support desk reads.
pub mod Directory
pub mod By
-- What the builder of a crate above reads.
pub mod Doors
-- What only proofs need.
pub mod work
