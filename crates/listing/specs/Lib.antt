-- What the program's contracts cite.
pub mod Ends
pub mod Events
