pub mod Demand
pub mod Bench
