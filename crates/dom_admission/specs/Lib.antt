-- Unmarked: own rules, about what the code holds and its contracts say.
pub mod Turned
pub mod Refusals
pub mod Handled
