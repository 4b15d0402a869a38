-- Unmarked: own rules, about what the code holds and its contracts say.
pub mod Numbers
pub mod Views
pub mod Removals
pub mod Tables
pub mod Watching
pub mod Marks
pub mod TableView
pub mod Paths
pub mod Taking
pub mod InterestedObservers
pub mod TablesByOwner
pub mod ByOwner
pub mod Owners
pub mod Naming
pub mod Staying
pub mod There
pub mod Definitions
