mod Cited
mod Climbing
mod Opening
mod Forward
mod Passing
mod Stops
mod Aside
mod Reaching
mod Candidates
mod Nested
mod Beginning
mod Backward
mod Parents
mod Beside
mod ReachingBack
mod BeginningBack
mod Fewer
mod Rest
pub mod Items
mod Standing
mod Listing
mod Leaving
pub mod Owners
