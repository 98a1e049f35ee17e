pub mod Unfiltering
