-- Facts that several needs rest on.
pub mod Digits
pub mod Spelling
pub mod Lines
pub mod Putting
pub mod Points
pub mod Room
pub mod Inputs
pub mod Written
