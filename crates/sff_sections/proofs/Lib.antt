-- `Pieces`: what is put one after another; `Sections`: which sections that makes, and how long they are.
pub mod Pieces
pub mod Sections
