-- A row: what it is in calls, its counts and notices, and that it keeps a state within the limits.
pub mod Notices
pub mod Within
pub mod Calls
pub mod Counts
