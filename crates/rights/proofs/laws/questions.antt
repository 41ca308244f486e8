-- The two questions, with a directory and without: their laws in reading order.
-- What a question needs, and from the rights reached to the answers.
pub mod Requiring
pub mod Asking
pub mod AskingBy
-- One answer each; the same by a directory; the short one agrees with the full one; the two profiles beside each other.
pub mod OneAnswer
pub mod SameAnswers
pub mod ShortAgrees
pub mod BothProfiles
-- What the filters and exclusive groups let through; the rights held to a limit; whether a name is reached.
pub mod Letting
pub mod Limits
pub mod Nearing
