pub mod Known
pub mod Length
pub mod Laws
