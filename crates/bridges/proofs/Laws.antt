pub mod Parts
pub mod Bridges
pub mod Outcome
pub mod Meaning
