-- What the crates above cite of a node that passes 4 and 5.
pub mod Sound
