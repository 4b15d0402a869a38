-- Unmarked: own rules, about what the code holds and its contracts say.
pub mod ListenersByName
pub mod Kept
pub mod Entries
pub mod Dispatches
pub mod Tables
pub mod Staying
pub mod Definitions
