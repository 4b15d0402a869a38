-- Unmarked: own rules, about what the code holds and its contracts say.
pub mod Looks
pub mod Recorded
pub mod Requests
pub mod TreeText
