-- What the contracts of this crate cite beside the definitions of `meaning`, `method`, `room`, `kinds` and `untils`.
pub mod Children
pub mod Inputs
