-- The Deadline as the definition has it, and its laws, case by case.
pub mod Changes
pub mod Laws
