pub mod Field
pub mod Record
pub mod Entries
pub mod Laws
