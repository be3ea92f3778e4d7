pub mod Laws
pub mod Parked
