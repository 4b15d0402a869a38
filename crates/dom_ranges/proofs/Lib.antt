mod Cited
pub mod Lists
mod Holding
mod SlotLists
mod Writing
pub mod Places
pub mod Before
pub mod Climbing
pub mod Naming
pub mod EndsAfterCalls
pub mod Vacant
mod Orders
mod Gathering
mod Placing
mod Listing
mod Parts
mod Moved
pub mod OwnOrder
mod Siblings
mod Leaving
mod Staying
mod Pending
