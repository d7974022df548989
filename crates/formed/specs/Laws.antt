pub mod Forming
pub mod Fresh
pub mod Pieces
