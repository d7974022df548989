pub mod Books
pub mod Sessions
pub mod Laws
