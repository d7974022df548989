pub mod Wavelength
pub mod Project
pub mod Next
pub mod Run
pub mod Rest
pub mod Computed
