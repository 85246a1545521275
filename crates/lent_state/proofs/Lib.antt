-- What the functions' proofs share, and what is stored in memory after a taking (Stores).
pub mod Words
pub mod Ready
pub mod Stored
pub mod Memory
pub mod Stores
