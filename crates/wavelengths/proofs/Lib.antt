pub mod Laws
pub mod Guarantees
