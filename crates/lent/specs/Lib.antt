pub mod Returned
pub mod Numbers
pub mod CallContracts
pub mod Laws
