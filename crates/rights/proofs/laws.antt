-- The laws, in reading order. What those of every part use.
pub mod ByNumber
pub mod Known
pub mod Counting
-- Then the walk, how many records it examines, what is held, and the questions; and tests that compute.
pub mod walk
pub mod examined
pub mod held
pub mod questions
pub mod tests
