-- Document 01, "Filtered blocks", whose words stand in quotation marks; from the parts to the whole: units; the filters
-- of 64 to 66, of 70 and 71, and of 72; a block; undoing; encoding, and what document 002 asks of it; SCF samples; the
-- numbers that each call may answer with.
pub mod Units
pub mod Delta
pub mod Narrow
pub mod Follow
pub mod Block
pub mod Undo
pub mod Made
pub mod Encode
pub mod Rules
pub mod Samples
pub mod Numbers
