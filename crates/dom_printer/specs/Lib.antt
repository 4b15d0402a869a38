-- Unmarked: own rules, those of the line protocol.
pub mod Keeping
pub mod Lines
pub mod Names
pub mod Strings
pub mod Steps
pub mod Pieces
pub mod Replies
pub mod Records
