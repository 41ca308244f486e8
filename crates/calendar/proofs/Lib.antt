-- What the proofs of several functions use, and the laws of the calendar.
pub mod laws
