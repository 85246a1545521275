-- What the contracts of this crate cite beside the definitions of `meaning`, `method`, `room`, `kinds`, `untils` and `pairs`.
pub mod Since
pub mod Parts
