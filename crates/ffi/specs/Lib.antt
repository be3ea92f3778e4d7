pub mod Plain
pub mod Notes
pub mod Replies
pub mod Answers
pub mod Figures
