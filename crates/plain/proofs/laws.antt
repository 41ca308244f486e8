-- The laws, in reading order. What a record says, and one step of each of the two questions that ask each other.
pub mod Records
pub mod Reaching
-- From them to the right held.
pub mod Holding
-- One answer, and that of the main walk.
pub mod EnginesAgree
