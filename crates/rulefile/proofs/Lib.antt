-- What the functions' proofs cite, in the order in which a rule is checked; `Ranges` is on lists of numbers.
pub mod Ranges
pub mod Nodes
pub mod Parents
pub mod Reach
pub mod Answer
pub mod Accepted
