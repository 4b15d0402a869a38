-- Unmarked: own rules, about what the code holds and its contracts say.
pub mod CommandGroups
pub mod WithListeners
pub mod Machine
pub mod RangeWorlds
pub mod Visits
pub mod Written
