pub mod Told
pub mod Sought
