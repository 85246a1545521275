-- Facts about sets of rows.
pub mod Saturation
pub mod Runs
pub mod Searching
pub mod Adding
pub mod Growing
