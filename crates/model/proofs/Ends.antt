-- Each settling ends within 2 × pending + 2 passes and leaves nothing due.
pub mod Passes
pub mod Fates
pub mod Through
pub mod NothingDue
pub mod Settlings
