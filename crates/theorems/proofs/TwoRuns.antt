-- Two runs that are alike but for bytes answer alike but for bytes.
pub mod Bounds
pub mod InUse
pub mod Numbering
pub mod Shapes
pub mod Theorem
