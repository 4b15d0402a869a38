-- Unmarked: own rules, about what the code holds and its contracts say.
pub mod PageKeys
pub mod Table
pub mod Rows
pub mod Contents
pub mod Own
pub mod Forest
pub mod Ids
pub mod Owners
pub mod Apart
pub mod EachNode
pub mod Within
pub mod Spots
pub mod Definitions
