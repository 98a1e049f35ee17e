pub mod Fields
pub mod Characters
