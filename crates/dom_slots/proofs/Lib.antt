mod Kept
mod Choices
pub mod Shown
pub mod NamesOfNodes
mod Firsts
pub mod Walks
pub mod Hosted
pub mod Siblings
mod Tables
mod Signalled
mod Entering
mod Ended
mod OwnSignals
mod Renewing
mod Hostless
mod Attaching
pub mod Recast
pub mod Added
pub mod Rooted
mod PlacedTrees
mod Settled
mod Moved
mod Attributed
mod Looks
mod Far
mod Stepping
mod Apart
mod Inside
mod Mapping
mod Assigned
mod Places
mod Leaving
mod Joining
mod Parting
mod Shortened
mod InLine
mod Singles
mod Unlisted
mod Serving
mod TreeSlots
mod Waited
mod Bare
mod Indexed
mod Parked
