pub mod Whole
pub mod StandIn
