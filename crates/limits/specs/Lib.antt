-- What the contracts of this crate cite beside the definitions of `meaning` and `writer`.
pub mod Weighs
