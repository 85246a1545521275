-- What the proofs of several functions use, and callers too.
mod Childless
pub mod Windows
