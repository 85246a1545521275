-- Facts about pairs in words.
pub mod Runs
pub mod Adding
pub mod Growing
pub mod Ascents
pub mod Behind
