-- What the crates above cite: a node that passes 4 and 5 is sound.
pub mod Sound
