pub mod Tree
pub mod Search
pub mod Crossings
pub mod Folded
