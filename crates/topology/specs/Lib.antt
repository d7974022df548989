pub mod Backup
pub mod Arrays
pub mod Arcs
pub mod Laws
