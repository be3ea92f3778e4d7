pub mod Masks
pub mod Places
pub mod Storage
