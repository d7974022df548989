pub mod Arcs
pub mod Chain
pub mod Steps
pub mod Walk
pub mod Folded
pub mod Collecting
pub mod Query
