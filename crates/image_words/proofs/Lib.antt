-- What the functions' proofs share, and what a state read in promises.
pub mod Saving
pub mod Reading
pub mod Restoring
pub mod RestoredState
