pub mod Changes
pub mod OneFlood
pub mod Laws
