pub mod Lengths
pub mod Turns
pub mod Whole
pub mod Printed
