-- `Pass`: one pass along the units. `Levels`: a pass for each level over data that are put.
pub mod Pass
pub mod Levels
