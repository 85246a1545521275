-- What the contracts of this crate cite beside the definitions of `meaning` and `method`.
pub mod Bounds
pub mod Filled
pub mod Stamps
