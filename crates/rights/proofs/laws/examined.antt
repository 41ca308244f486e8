-- M-109, "How many records a walk reads": its laws in reading order.
pub mod ExaminedOnce
pub mod Examining
pub mod AtMostFourTimes
