-- What is left of a line without a client's bytes, and its text.
pub mod Puts
pub mod Entries
pub mod EntryLaws
pub mod FrameLaws
pub mod Lines
pub mod LineLaws
