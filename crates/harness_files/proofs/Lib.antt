pub mod Clips
pub mod Fronts
