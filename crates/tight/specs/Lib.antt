-- What the customer reads.
pub mod Programs
pub mod DayPrograms
pub mod SlipPrograms
pub mod LimitPrograms
pub mod BearPrograms
pub mod Demand3
pub mod Blocks
pub mod Examples
pub mod Appointed
pub mod Slips
pub mod Limits
pub mod Bearings
pub mod EachNumber
