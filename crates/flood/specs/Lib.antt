pub mod Digraph
pub mod Machine
pub mod Topology
pub mod Lent
pub mod Path
pub mod Laws
pub mod Guarantees
