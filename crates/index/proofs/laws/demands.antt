-- What the customer demands, with the theorem for each, in reading order.
-- 1. Bad input changes nothing.
pub mod Unchanged
-- 3. The order of messages does not matter, and counts are the statements that stand.
pub mod AnyOrder
pub mod Pairs
pub mod Standing
-- 2. Each call has one answer, and a set written as text reads back as the same set.
pub mod OneCall
pub mod RoundTrip
