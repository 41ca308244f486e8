-- The laws, in reading order.
pub mod Years
pub mod Dates
pub mod Terms
pub mod EachWay
pub mod OneAnswer
pub mod MonthEnds
-- And tests that compute.
pub mod DateTest
