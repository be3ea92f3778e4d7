pub mod OnePass
pub mod Exactly
pub mod Means
