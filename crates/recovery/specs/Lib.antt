pub mod Session
pub mod Answers
pub mod Formed
pub mod Calls
pub mod Pieces
pub mod Laws
