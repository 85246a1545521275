-- Facts about a node's step.
pub mod Laying
pub mod Going
pub mod Reading
pub mod Keeping
pub mod Arity
pub mod Given
pub mod Pairs
pub mod Standing
pub mod Numbers
pub mod Seeing
pub mod Stepping
pub mod Ending
pub mod Leaf
