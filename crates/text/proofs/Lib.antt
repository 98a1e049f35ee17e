-- `Writing`: pieces one after another, and the dash; `Fitted`: a text that is measured; `Coming`: a loop of pieces;
-- `Decimal`: digits.
pub mod Writing
pub mod Fitted
pub mod Coming
pub mod Decimal
