-- 01, "User u holds right b on object o": its laws in reading order.
-- Memberships, masks disregarded.
pub mod Members
-- The filters.
pub mod Filters
pub mod Sifting
-- The grants between the two sides.
pub mod Granting
pub mod Sides
-- Exclusive groups.
pub mod Grouping
