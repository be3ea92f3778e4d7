-- Lists of calls, rows, saves and loads: demand 3 of all of them.
pub mod BlankedForm
pub mod Bounds
pub mod Numbering
pub mod OneNumbering
pub mod OneRun
pub mod Stands
pub mod Theorem
pub mod TimesAlike
