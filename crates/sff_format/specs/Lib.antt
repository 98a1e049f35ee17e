-- In document 01's order: the rules; the model of a file and its layout; what a file may say; the tests; what an
-- accepted file says; places; a walk over the reads; the insert; a read in numbers; reading on; a read by its position;
-- writing; the numbers that each call may answer with.
pub mod Rules
pub mod Model
pub mod Valid
pub mod HeaderTest
pub mod ReadTest
pub mod FileTest
pub mod Parse
pub mod Places
pub mod Walk
pub mod Insert
pub mod View
pub mod Step
pub mod Position
pub mod Writing
pub mod Numbers
