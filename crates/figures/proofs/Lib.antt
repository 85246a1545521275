-- Facts about figures in slices and as a table.
pub mod Begins
pub mod Tabled
pub mod Slices
pub mod Front
pub mod Weighed
pub mod Needs
pub mod Filled
