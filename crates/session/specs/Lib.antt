pub mod Frames
pub mod Requests
pub mod Sessions
pub mod HandOuts
pub mod Lines
pub mod Answers
pub mod Taken
