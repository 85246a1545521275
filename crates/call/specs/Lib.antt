-- What a call asks, and what it leaves of a state and a buffer.
pub mod Stores
pub mod Blocks
pub mod Settles
