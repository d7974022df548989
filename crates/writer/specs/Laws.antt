pub mod Writing
pub mod Length
