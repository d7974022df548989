pub mod Counts
pub mod Status
