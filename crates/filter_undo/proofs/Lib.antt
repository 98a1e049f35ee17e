pub mod Buffers
pub mod Chain
pub mod Choice
