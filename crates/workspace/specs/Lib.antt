-- The sizes of the rooms.
pub mod Rooms
