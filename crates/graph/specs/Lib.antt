pub mod Walk
pub mod Net
pub mod Reach
pub mod Plan
pub mod Greedy
pub mod Laws
