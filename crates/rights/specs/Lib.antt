-- What the support desk reads.
pub mod Chain
pub mod Groups
pub mod Held
pub mod Profiles
pub mod Examined
pub mod Questions
pub mod Through
pub mod HeldTo
pub mod Near
-- What only proofs need.
pub mod work
