-- The definition meets what the manual lays down, seen through `step`.
pub mod Rises
pub mod FiveBits
pub mod Answers
pub mod Timing
pub mod Reception
pub mod ReceiveTimeout
pub mod Receiver
pub mod Level
pub mod Registers
