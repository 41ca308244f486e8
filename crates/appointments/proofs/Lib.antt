-- What the proofs of several functions use, and the laws of appointments.
pub mod laws
