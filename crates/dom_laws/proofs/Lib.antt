-- Laws on lists of names, and on trees in which each name stands once.
pub mod Lists
pub mod Options
pub mod Counts
pub mod Shapes
pub mod Children
pub mod Order
pub mod Steps
pub mod Chains
pub mod Removal
pub mod Paths
pub mod Moves
pub mod Relatives
pub mod Walks
pub mod KeptAncestors
pub mod Siblings
mod StatedLaws
pub mod Laws
