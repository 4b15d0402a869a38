-- What holds of every world that the document machine reaches. Unmarked: own rules, what holds of the machine's worlds.
pub mod Worlds
pub mod Tables
pub mod Reached
pub mod Keeping
pub mod Wholes
pub mod Follows
pub mod Sights
pub mod Bounds
pub mod Texts
pub mod Definitions
