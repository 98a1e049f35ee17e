-- The walk's test, and the code's loops over it; how long layouts are.
pub mod Bases
pub mod Loops
pub mod Sizes
-- The header, a read, an index, a boundary: accepted, it is the layout of what it says; laid out, it is accepted and
-- read back.
pub mod HeaderLaws
pub mod ReadLaid
pub mod ReadTaken
pub mod Indexes
pub mod Boundaries
-- The same of a whole file, and that its layout is bytes; `Format` puts them together.
pub mod FileLaid
pub mod FileTaken
pub mod Written
pub mod Format
-- A file that keeps the rules with another read in the place of one, and without any set of its reads.
pub mod Keeps
-- A file at a read; what is handed out of a read, and its insert; a read by its position; reading on; a walk over the
-- reads.
pub mod Split
pub mod Places
pub mod Views
pub mod Inserted
pub mod Positions
pub mod Steps
pub mod ViewTests
pub mod Walks
pub mod Turns
-- Writing: a read appended, one that is lent to be written, the writers one after another, and what they leave read
-- back.
pub mod Appended
pub mod Given
pub mod Appends
pub mod Writers
pub mod Holders
pub mod Rewritten
-- The rules in document 01's words.
pub mod InWords
-- No refusal has the number 0.
pub mod Refusals
-- What a call gave whose refusal goes on in an error that says more.
pub mod Handed
