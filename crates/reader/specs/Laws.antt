pub mod Cursor
pub mod Read
pub mod Header
