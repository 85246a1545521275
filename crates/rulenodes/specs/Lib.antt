-- What the contracts of this crate and of those above cite beside the definitions of `meaning`.
pub mod Kinds
