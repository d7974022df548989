pub mod Laws
pub mod Main
