-- 01, "The message": its laws in reading order.
-- Halves: the letters of a mask, a statement's record, the halves of a message.
pub mod HalfLetters
pub mod Formula
pub mod Halves
pub mod KindRead
-- One change: the counts of a record, and what comes of them in a block.
pub mod Recount
pub mod Changes
pub mod Edited
pub mod Steps
-- The tests of a message, plain or wide, in their order.
pub mod SentTests
-- Changes one after the other, and as numbers.
pub mod OneMessage
pub mod Running
pub mod RunningFront
pub mod Packing
pub mod ListTests
pub mod StaysGood
-- Wide messages: their lists of names, what a value says of its message, every pair, and the pairs as numbers.
pub mod NameLists
pub mod WideKnown
pub mod EveryPair
pub mod PairsListed
-- Tests that compute.
pub mod ChangeTest
pub mod MessageTest
