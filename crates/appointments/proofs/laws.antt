-- The laws, in reading order. First those of a list.
pub mod Rest
pub mod Picked
pub mod Tested
pub mod Gathered
pub mod NextDay
pub mod LastDay
pub mod Asked
pub mod OneLater
-- Then those of a move, and one answer for each call.
pub mod Moving
pub mod OneAnswer
pub mod SameBlock
-- Then demand 3.
pub mod SecondHalf
pub mod NeverSix
-- And tests that compute.
pub mod ListTest
