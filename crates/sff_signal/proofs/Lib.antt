pub mod Totals
pub mod Made
pub mod Numbers
pub mod Chosen
pub mod Cases
