-- Pairs as a set in words, and pairs grown older.
pub mod Pairs
