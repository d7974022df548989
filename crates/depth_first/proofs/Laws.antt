pub mod Unfold
pub mod Follows
pub mod Ancestors
pub mod Crossings
pub mod Main
pub mod Nodes
