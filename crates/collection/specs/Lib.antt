pub mod Collection
pub mod Meaning
pub mod Arcs
pub mod Walked
