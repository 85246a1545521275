-- Facts about storing entries, and about a call in its room.
pub mod Fronts
pub mod Storing
pub mod Calls
