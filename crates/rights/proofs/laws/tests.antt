-- Tests that compute, for closed blocks, in reading order.
pub mod ChainTest
pub mod MemberTest
pub mod FilterTest
pub mod OpenTest
pub mod HoldsTest
pub mod ExaminedTest
