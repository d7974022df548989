pub mod Turns
pub mod Follow
