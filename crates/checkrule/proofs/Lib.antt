-- What is read of a longer file is enough.
pub mod Files
