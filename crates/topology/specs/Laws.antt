pub mod Backup
pub mod Arrays
pub mod ByEnds
