-- Unmarked: own rules, about the handles that C has of documents.
pub mod State
pub mod Owned
pub mod Owners
pub mod Asked
pub mod Values
pub mod Arrays
pub mod Statuses
pub mod Lending
pub mod Calls
pub mod Looks
