-- Facts about a node's sets and pairs as entries.
pub mod Gathered
pub mod Marking
pub mod Loading
pub mod Paired
pub mod Moving
pub mod Keeping
