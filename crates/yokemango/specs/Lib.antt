-- What the exported functions give, in plain numbers, and the claims about a whole list of exported calls.
pub mod Parts
pub mod Exported
pub mod Numbers
pub mod ExportedList
pub mod ExportedCuts
