pub mod SetsUp
