-- Lists of calls, rows, saves and loads: demand 3 of all of them.
pub mod Renamed
pub mod Natural
pub mod Alike
pub mod Agree
pub mod Blanked
