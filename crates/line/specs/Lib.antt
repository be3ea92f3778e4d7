pub mod Names
pub mod Levels
pub mod Moves
pub mod Seen
pub mod Applied
pub mod Instants
pub mod Begins
