-- Facts about since's rows and pairs.
pub mod Ages
pub mod HeldPairs
pub mod Fresh
pub mod Whole
pub mod FromBack
