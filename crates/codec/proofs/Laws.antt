pub mod Accepted
pub mod Reading
pub mod Locate
pub mod Written
pub mod Encoding
pub mod Read
pub mod Shown
pub mod Prefix
