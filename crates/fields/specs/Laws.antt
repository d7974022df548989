pub mod Fields
pub mod Record
pub mod Entries
pub mod Needless
