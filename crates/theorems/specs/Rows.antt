-- A row: the laws of one write after another at one date.
pub mod Still
pub mod Levels
pub mod Next
pub mod First
pub mod Settlings
pub mod Marks
