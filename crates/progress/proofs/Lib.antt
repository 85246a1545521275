-- Facts about the definitions that the proofs use, and callers too.
pub mod Scans
pub mod Withins
pub mod Fills
pub mod Heads
