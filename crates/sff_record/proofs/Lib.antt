pub mod Reasons
pub mod Names
