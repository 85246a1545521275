-- What saving and reading in promise, how an image's parts stand in words, and what a state read in promises.
pub mod Promises
pub mod Parts
pub mod RestoredState
