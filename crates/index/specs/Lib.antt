-- What the support desk reads: a file for each heading of 01, and one for wide messages (02, M-100).
pub mod Letters
pub mod Numbers
pub mod Block
pub mod Message
pub mod Wide
pub mod Text
pub mod Calls
pub mod History
-- What only proofs need.
pub mod work
