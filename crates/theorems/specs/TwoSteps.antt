-- A settling in two steps is one settling: what an earlier look changes, and where.
pub mod Raises
pub mod Dressed
pub mod Departures
pub mod Levels
pub mod Later
pub mod Bare
pub mod Moves
pub mod ClockOff
pub mod Exception
pub mod Together
pub mod Differs
pub mod Theorem
