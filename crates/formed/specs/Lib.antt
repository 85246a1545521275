-- What is stored in slices, what the test of it leaves, and what its steps ask and ensure.
pub mod StateFigures
pub mod Walk
pub mod Parts
pub mod Tests
pub mod Steps
