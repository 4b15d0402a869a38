-- Unmarked: own rules, those of the line protocol.
pub mod Views
pub mod Filters
pub mod Streams
pub mod Keywords
