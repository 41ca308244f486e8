-- What the support desk reads.
pub mod Appointment
pub mod Moves
pub mod Asking
pub mod Days
-- What only proofs need.
pub mod work
