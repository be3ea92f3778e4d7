-- What is proved of it.
pub mod Laws
pub mod Keeps
pub mod Ends
pub mod Refuses
pub mod MeetsManual
pub mod ShutsOut
pub mod Rows
pub mod Unused
