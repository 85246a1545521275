-- Facts about writing words and about a report's words.
pub mod Gathers
pub mod Putting
pub mod Reports
pub mod Writing
