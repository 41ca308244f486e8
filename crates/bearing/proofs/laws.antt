-- The laws, in reading order. The call.
pub mod Telling
pub mod Asking
-- Where blocks agree: what is reached, the rights, the numbers of records examined; then the answers.
pub mod Agreeing
pub mod SameRights
pub mod SameNumbers
pub mod EqualAnswers
-- A message about records that do not bear, and a list of them.
pub mod Elsewhere
pub mod Beforehand
