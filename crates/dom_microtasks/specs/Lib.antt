-- Unmarked: own rules, about what the code holds and its contracts say.
pub mod Tasks
pub mod ByOwner
pub mod OwnerNumbers
pub mod Signalled
pub mod EachOnce
pub mod SlotNumbers
