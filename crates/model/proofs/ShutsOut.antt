-- Laws of `step` that shut out wrong definitions.
pub mod EveryCall
pub mod LineAndBits
pub mod Moves
pub mod Timeouts
pub mod Notices
pub mod Corners
pub mod Landings
pub mod Unsettled
pub mod Storage
pub mod Clock
pub mod Start
pub mod HandOver
pub mod Wakes
