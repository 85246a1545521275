-- Facts about the definitions that the proofs use, and callers too.
pub mod Forms
pub mod Fits
pub mod Admits
pub mod Passes
