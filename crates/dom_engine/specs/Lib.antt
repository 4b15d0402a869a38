-- Unmarked: own rules, about runs and sessions.
pub mod Session
pub mod Run
pub mod Reading
pub mod PageLaws
pub mod GroupLaws
pub mod Sessions
pub mod Calls
pub mod CallSessions
pub mod GroupPrefixes
pub mod Documents
pub mod DocumentLaws
