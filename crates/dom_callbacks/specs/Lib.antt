-- Unmarked: own rules, about what the code holds and its contracts say.
pub mod Views
pub mod Outputs
pub mod Bare
pub mod States
