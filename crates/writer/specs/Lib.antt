-- The words of a report, and what writing words leaves.
pub mod Words
pub mod Puts
