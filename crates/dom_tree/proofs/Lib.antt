mod Names
mod Rows
pub mod Reach
mod Roots
pub mod Changes
mod Reading
mod KeyLists
mod PageKeyLists
pub mod OwnerLists
mod Kept
mod Adding
mod Setting
mod Walks
mod Children
mod Placing
mod Noted
pub mod Once
mod Within
mod Order
mod OrderWithin
mod Backward
pub mod Owned
mod OwnChanges
pub mod OwnPlacings
mod EachNode
mod Ordered
mod Stays
mod ChildLists
mod Holds
pub mod Standing
pub mod Searching
pub mod Inside
mod Steps
