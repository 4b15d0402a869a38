-- Unmarked: own rules, those of the line protocol.
pub mod Gives
pub mod Strings
