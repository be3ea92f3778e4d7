-- Laws that several proofs share.
pub mod Choose
pub mod Lists
pub mod Bits
pub mod Cases
pub mod Events
pub mod AccessCases
pub mod Plans
pub mod StepCases
pub mod Placed
