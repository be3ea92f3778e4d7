pub mod Hands
pub mod Receives
pub mod Takes
pub mod TakesWritten
pub mod TakesTx
