-- Facts about entries in words and sets appended to others.
pub mod Streaks
pub mod Listed
pub mod Copies
pub mod Growth
pub mod Putting
pub mod Entries
pub mod Walking
