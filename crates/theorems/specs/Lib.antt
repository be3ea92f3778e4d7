-- What is proved of whole runs, of blanked ones, of settlings in steps and of a row's writes.
pub mod TwoRuns
pub mod Blanked
pub mod Keeps
pub mod TwoSteps
pub mod Rows
pub mod Orders
