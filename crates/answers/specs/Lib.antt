pub mod Notices
pub mod Reports
pub mod Replies
pub mod Faults
pub mod Lengths
pub mod LineFigures
pub mod Examples
