pub mod Asked
pub mod Drill
pub mod Input
