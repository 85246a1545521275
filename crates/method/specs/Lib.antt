-- The incremental method: what is stored between calls, and one call's step on it.
pub mod Stored
pub mod Counts
pub mod Settle
pub mod Step
pub mod WellFormed
pub mod Room
