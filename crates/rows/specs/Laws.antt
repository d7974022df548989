pub mod Edges
pub mod Spreading
pub mod Meeting
