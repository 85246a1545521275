-- What the proofs of several functions use, and that the masks are the free variables of the rule's formulas.
pub mod Bools
pub mod Free
