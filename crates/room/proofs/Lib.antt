-- Facts about sets laid one after the other.
pub mod SetsInOrder
