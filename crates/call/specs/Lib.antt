pub mod Encoding
pub mod Record
pub mod Laws
