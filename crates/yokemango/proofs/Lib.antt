-- What the exported functions give, and the claims about a whole list of exported calls (ExportedCuts, ExportedList).
pub mod Numbers
pub mod ExportedCuts
pub mod ExportedList
