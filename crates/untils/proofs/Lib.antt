-- Facts about until's sets and rows.
pub mod Spans
pub mod Passing
pub mod DueRuns
