mod Examples
pub mod TimesAlike
pub mod TwoRuns
pub mod Orders
