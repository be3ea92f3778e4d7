-- How a form is written: bytes put one after the other into a lent buffer, and that they are the form.
pub mod Puts
pub mod Fields
pub mod Rings
pub mod Head
pub mod Saves
