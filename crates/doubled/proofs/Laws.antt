pub mod Parallel
pub mod Bridge
pub mod TwoNodes
pub mod TwoPlan
pub mod Resting
pub mod TwoCalls
