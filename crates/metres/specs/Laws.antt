pub mod Length
pub mod Summing
