-- Kept entries in words, sets appended to those of a call, and what functions over them ask and ensure.
pub mod Entries
pub mod Appended
