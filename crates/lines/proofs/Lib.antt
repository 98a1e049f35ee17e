-- `Lengths`: how long a line can be; `WrittenOut`: its fields in order; `Cases`: document 01's own lines.
pub mod Lengths
pub mod WrittenOut
pub mod Cases
pub mod Answered
