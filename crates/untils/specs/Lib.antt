-- What the contracts of this crate cite beside the definitions of `meaning`, `method`, `room` and `kinds`.
pub mod Until
pub mod Leads
