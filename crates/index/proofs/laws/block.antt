-- 01, "The block": its laws in reading order.
-- Bytes and numbers.
pub mod Stores
pub mod Bytes
pub mod Seen
-- Letters: the rights in a mask, and which letters a kind may have.
pub mod Masks
pub mod MayHave
-- Records: they rise, each is there once; where one is found.
pub mod ThreeKinds
pub mod Records
pub mod Finding
-- A good block: what it is made of, records in the place of others, tests of it, and that its counts fix it.
pub mod Known
pub mod Together
pub mod Splice
pub mod Checked
pub mod GoodTest
pub mod Canonical
-- How a block is written: its header, an empty one, other bytes of the records that came.
pub mod Sizes
pub mod Empty
pub mod SpliceThen
-- The doors: the net mask of a record, and one answer each.
pub mod Joining
pub mod OneDoor
