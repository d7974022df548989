pub mod Now
pub mod Each
pub mod Books
pub mod Wider
pub mod Earlier
