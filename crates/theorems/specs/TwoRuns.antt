-- Two runs that are alike but for bytes answer alike but for bytes.
pub mod Alike
pub mod Agree
pub mod AgreeBy
pub mod Renamed
pub mod Numbered
pub mod Natural
pub mod NaturalCalls
pub mod NaturalRuns
pub mod InUse
