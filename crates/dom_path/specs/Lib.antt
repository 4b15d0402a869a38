-- Unmarked: own rules, about what the code holds and its contracts say.
pub mod Ways
pub mod Hosted
pub mod Nests
pub mod PathNodes
pub mod Outward
pub mod Built
pub mod Items
pub mod Paths
pub mod Definitions
