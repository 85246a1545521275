-- What the kinds read.
pub mod Kinds
