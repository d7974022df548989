pub mod Checks
pub mod Forming
pub mod Carried
