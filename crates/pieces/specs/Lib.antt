pub mod Given
pub mod Pieces
pub mod Laws
