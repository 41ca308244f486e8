-- Tests that compute, for closed blocks.
pub mod SlipTest
