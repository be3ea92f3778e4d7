-- The form of a parked UART: what it is, how it is read back, and what is proved of it.
pub mod Cells
pub mod Form
pub mod Read
pub mod Tests
pub mod Load
pub mod Orders
pub mod Examples
