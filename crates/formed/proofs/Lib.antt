-- Facts about the test of what is stored.
pub mod Ascents
pub mod NoPairs
pub mod Fronts
pub mod Masks
pub mod Ages
pub mod Walks
pub mod Runs
pub mod Ordered
pub mod Climbs
pub mod Nodes
pub mod Placing
pub mod Times
pub mod Whole
