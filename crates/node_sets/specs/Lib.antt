-- A node's sets and pairs as kept entries, and what functions over them ask and ensure.
pub mod NodeEntries
pub mod Blocks
pub mod Parts
