-- The laws, in reading order. What those of every heading use: ranges, tests that compute, a yes or no that is right, and
-- requirements in their order.
pub mod Range
pub mod Tests
pub mod Answer
pub mod Firsts
pub mod OneFirst
pub mod Refusing
pub mod OneResult
pub mod Deciding
-- Then by 01's headings, and what was promised to the customer.
pub mod block
pub mod message
pub mod text
pub mod demands
