mod Cited
pub mod Naming
pub mod Narrowing
mod Among
mod Visiting
mod Placing
mod Staying
mod Typed
mod Listing
mod Taking
