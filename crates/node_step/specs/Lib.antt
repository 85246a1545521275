-- The figures of a call's nodes, what the step of a node and the walk over the tree ask, and what they leave.
pub mod Figures
pub mod Walks
pub mod Parts
