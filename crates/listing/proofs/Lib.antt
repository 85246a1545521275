-- Facts that several needs of the program rest on.
pub mod Texts
pub mod Rests
