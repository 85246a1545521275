-- Facts about weighing 14 to 16.
pub mod Weighing
