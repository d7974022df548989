pub mod Counts
pub mod Tested
