-- Unmarked: own rules, about what the code holds and its contracts say.
pub mod Views
pub mod Search
pub mod Reads
pub mod Parsed
pub mod Texts
pub mod Words
pub mod Grammar
pub mod Laws
pub mod Siblings
pub mod Known
pub mod Definitions
pub mod Signs
