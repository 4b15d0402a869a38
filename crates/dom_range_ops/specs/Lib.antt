-- Unmarked: own rules, about what the code holds and its contracts say.
pub mod Texts
pub mod Pieces
pub mod Insertions
pub mod Takings
pub mod Deletions
pub mod Extractions
pub mod Definitions
