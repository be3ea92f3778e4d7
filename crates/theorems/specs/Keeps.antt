-- The widths that the types give a state, which every call keeps.
pub mod Widths
