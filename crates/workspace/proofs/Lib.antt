-- That the rooms are enough.
pub mod Enough
