-- Unmarked: own rules, about what the code holds and its contracts say.
pub mod Tables
pub mod RangeSlots
pub mod Rules
pub mod Climbs
pub mod Pending
pub mod Settings
pub mod Naming
pub mod Listed
pub mod Staying
pub mod Definitions
