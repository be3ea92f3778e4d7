pub mod Lists
pub mod Figures
pub mod Pass
pub mod Examples
