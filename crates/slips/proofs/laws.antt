-- The laws, in reading order. What the check and the finder ask.
pub mod Naming
pub mod Rights
pub mod Parts
-- The check.
pub mod Checking
-- The walk of one side, and the names on the way to a name.
pub mod Listing
pub mod Walking
-- The granting record.
pub mod Objects
pub mod Nearer
pub mod Finding
-- The finder.
pub mod Seeking
-- One answer; slips and what is held.
pub mod OneSlip
pub mod SlipsHold
-- Tests that compute.
pub mod tests
