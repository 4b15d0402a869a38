-- Unmarked: own rules, about what the code holds and its contracts say.
pub mod Hosts
pub mod Index
pub mod Parked
pub mod Shadows
pub mod Tables
pub mod KeyMaps
pub mod Lists
pub mod NodeSlots
pub mod Steps
pub mod Kept
pub mod Fields
pub mod Renewals
pub mod Insides
pub mod Waiting
pub mod Definitions
