-- What is proved of the form.
pub mod Numbers
pub mod Parts
pub mod Lengths
pub mod Saves
pub mod Back
pub mod Bytes
pub mod Within
pub mod Fits
