pub mod Carried
pub mod Meaning
