-- 01, "The text of a set": its laws in reading order.
-- What is written: numbers, records, a set.
pub mod Digits
pub mod Decimal
pub mod SetText
-- What is written is read as what it was written from.
pub mod TakenApart
pub mod ReadNumbers
pub mod ReadLetters
pub mod ReadSets
pub mod ReadSteps
-- What a reading tells, piece by piece, to the place of a wrong text.
pub mod HandedOn
pub mod Readers
pub mod NumberReader
pub mod LetterReader
pub mod SetReader
pub mod TextOnce
pub mod Placing
pub mod Scans
-- The sets of a block.
pub mod Writes
pub mod SetCounts
pub mod SetRange
pub mod IsSet
pub mod OneSet
pub mod TextBound
-- A set takes the place of another, and the two calls.
pub mod Entering
pub mod Replacing
pub mod SetCalls
pub mod WriteAccepted
