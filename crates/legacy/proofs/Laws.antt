pub mod Computed
pub mod Refused
pub mod Checked
