pub mod Wavelength
pub mod Merge
