-- Facts about the words that nodes hand down.
pub mod Handed
