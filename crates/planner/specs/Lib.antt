pub mod Plan
pub mod Search
pub mod Parallel
pub mod Meaning
pub mod Laws
