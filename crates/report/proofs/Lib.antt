-- Lemmas on plain lists and numbers, for the proofs of this crate's functions, and the theorems on well_made reports.
mod Compare
pub mod Runs
pub mod Sums
pub mod Forms
mod Entries
mod Reading
mod Lists
pub mod RoundTrip
pub mod Shown
pub mod Reports
pub mod Written
