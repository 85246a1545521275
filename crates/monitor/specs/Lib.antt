-- The state, the contracts of the operations, lists of calls, and the claims about them.
pub mod State
pub mod Promises
pub mod Calls
pub mod Reports
pub mod Cuts
pub mod CutList
pub mod WholeList
