pub mod Answer
pub mod Causes
pub mod Reasons
pub mod Rows
