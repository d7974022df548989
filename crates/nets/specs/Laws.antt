pub mod Fits
pub mod Ordered
pub mod Parallel
pub mod Table
pub mod Ways
pub mod Finds
pub mod NoPath
