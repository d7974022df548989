pub mod Answer
pub mod Mesh
pub mod WellFormed
pub mod Refusal
pub mod Arc
pub mod Parts
pub mod Laws
