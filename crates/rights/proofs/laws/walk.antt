-- 01, "a chain of at most 32 M records": the walk, its laws in reading order.
-- Where the records of a name are.
pub mod Looking
pub mod Starting
-- One round, and all rounds.
pub mod Fronts
pub mod Rounding
pub mod MarksAreChains
