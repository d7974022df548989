pub mod Nets
pub mod Parallel
pub mod Laws
