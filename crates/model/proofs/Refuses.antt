-- Each number exactly when document 01 says; a refused call changes nothing.
pub mod Conditions
pub mod FifoPlace
pub mod Refusals
pub mod Carried
pub mod Offsets
pub mod Exactly
