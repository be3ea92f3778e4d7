pub mod Reads
pub mod Outputs
