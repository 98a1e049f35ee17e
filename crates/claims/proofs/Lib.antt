-- The demands, and further sentences of document 01 in its order; below them the table of marked cases computed, what
-- is computed of E besides, and the table of calls row by row.
pub mod Demands
pub mod ScopeFile
pub mod ScopeReads
pub mod ScopeWriting
pub mod ScopeRecords
pub mod ScopeFilters
pub mod ScopeLister
pub mod MarkedCases
pub mod ScopeCases
pub mod Rows
