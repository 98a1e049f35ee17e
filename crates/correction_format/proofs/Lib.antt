-- What a well-formed record tells, and that its definition is the right one.
pub mod Records
pub mod RecordsLaid
-- What the fields that the code holds ask for.
pub mod Asked
-- What a correction for which no reason holds makes of a file.
pub mod Edited
pub mod EditedSizes
pub mod EditedBytes
-- A record is refused for the first of its reasons that holds.
pub mod InOrder
-- One correction; a list of them, and the claim over every list.
pub mod Carried
pub mod Answered
pub mod ListTurns
pub mod ListClaim
pub mod InTurn
