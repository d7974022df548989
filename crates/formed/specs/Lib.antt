pub mod Cut
pub mod Formed
pub mod WellFormed
pub mod Pieces
pub mod Laws
