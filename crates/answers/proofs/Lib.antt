pub mod Answers
pub mod Chains
pub mod Numbered
pub mod Reasons
pub mod Rows
