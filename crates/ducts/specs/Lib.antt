pub mod Sharing
pub mod Meaning
