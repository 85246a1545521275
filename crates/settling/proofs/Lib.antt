-- Facts about what stands for a node, and about what it gives.
pub mod Agreeing
pub mod Gives
