pub mod Record
pub mod WellFormed
pub mod Calls
pub mod History
pub mod Bench
pub mod Current
