-- From what the contracts of the operations say to the claim about a whole list of takings (WholeList), and what the functions' proofs share.
pub mod Logs
pub mod Reports
pub mod Along
pub mod Starting
pub mod Cuts
pub mod CutList
pub mod WholeList
