-- In document 01's order: a correction; a record, and its layout; what it does to a file; the reasons to refuse it, as
-- tests and in words of the model; one correction; a list of them, and the same over the model of the file; the
-- numbers.
pub mod Correction
pub mod Record
pub mod RecordLayout
pub mod Fields
pub mod Edit
pub mod Reasons
pub mod InOrder
pub mod Correct
pub mod ListRun
pub mod ListModel
pub mod Numbers
