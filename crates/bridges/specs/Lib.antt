pub mod Survey
pub mod Meaning
