mod Folds
mod Gathering
mod Tables
mod Leaving
mod Once
mod Keeping
mod Thinning
mod Renewing
mod Lookups
pub mod Ascending
pub mod Naming
pub mod Speaking
mod Staying
mod There
mod Watching
mod Nearest
