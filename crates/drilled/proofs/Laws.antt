pub mod Net
pub mod Plan
pub mod Flood
pub mod Calls
