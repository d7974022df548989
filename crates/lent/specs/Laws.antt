pub mod Numbers
pub mod StoreBack
pub mod LendOut
