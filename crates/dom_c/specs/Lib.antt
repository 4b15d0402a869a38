-- Unmarked: own rules, about the handles that C has of sessions.
pub mod State
pub mod Owned
pub mod Calls
