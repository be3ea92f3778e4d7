-- Set-up gives a state within the limits, and every call keeps one so.
pub mod Parts
pub mod Rest
pub mod Settling
pub mod Kept
pub mod Wake
pub mod Host
pub mod Dated
pub mod Access
pub mod EachCall
pub mod Runs
pub mod MapKept
