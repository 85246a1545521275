-- Sets of rows, and what functions over them ask and ensure.
pub mod Rows
pub mod Sets
