-- What the contracts of `dates` cite, and the laws of it.
pub mod Dates
pub mod Laws
