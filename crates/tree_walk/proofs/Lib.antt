-- Facts about the walk over a rule's tree.
pub mod Trees
pub mod Paths
pub mod Standing
pub mod Arms
pub mod Spine
pub mod Whole
