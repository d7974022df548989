pub mod Calls
pub mod Forming
pub mod Tested
