pub mod Listed
pub mod Sharing
pub mod Asking
pub mod Query
