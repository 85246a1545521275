-- Facts about the kinds' rows.
pub mod Atoms
