-- Unmarked: own rules, about what the code holds and its contracts say.
pub mod Attributes
pub mod Held
pub mod Signs
