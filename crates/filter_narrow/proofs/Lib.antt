pub mod Begun
pub mod Filling
pub mod Walk
pub mod Units
