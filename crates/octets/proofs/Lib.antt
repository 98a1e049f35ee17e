-- `Lists`: parts and what is put. `AllBytes`, `Digits`: bytes, and numbers over the width. `Stands`, `Inserts`: what
-- stands at a place, both ways. `FilledFront`: a file at the front of a buffer. `Moves`, `Worded`, `Scan`, `Same`: the
-- loops' invariants.
pub mod Lists
pub mod AllBytes
pub mod Digits
pub mod Stands
pub mod Inserts
pub mod FilledFront
pub mod Moves
pub mod Worded
pub mod Scan
pub mod Every
pub mod Same
