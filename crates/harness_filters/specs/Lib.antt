pub mod Outs
pub mod Samples
