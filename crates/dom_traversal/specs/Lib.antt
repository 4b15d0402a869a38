-- What contracts see of iterators and walkers, alone and by their owners' numbers. Unmarked: own rules, about what the code holds and its contracts say.
pub mod Filters
pub mod Iterators
pub mod Directions
pub mod Walkers
pub mod OwnTables
pub mod Cursors
pub mod ByOwner
pub mod References
pub mod Definitions
