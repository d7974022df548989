pub mod OldKept
pub mod Upgraded
pub mod Demand
pub mod Replayed
pub mod Computed
