pub mod Dig
