-- What the contracts of this crate cite beside the definitions of `meaning`, `method`, `formed` and `node_step`.
pub mod Counts
pub mod Fronts
pub mod Tables
pub mod Words
pub mod Sizes
