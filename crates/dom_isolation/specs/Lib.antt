-- The isolation laws: what the page sees of the document machine is the page machine, and what a group of owners that keeps makers sees of the others.
-- Unmarked: own rules, what holds of the two machines.
pub mod Laws
pub mod Interference
pub mod TouchedMachines
pub mod FullLaws
pub mod FullIsolation
pub mod Texts
pub mod Words
pub mod Groups
pub mod GroupLaws
pub mod Agreement
pub mod SilentRuns
pub mod FullGroups
pub mod GroupTexts
pub mod QuietTypes
pub mod SeenNodes
pub mod GroupStates
pub mod Strategies
pub mod Definitions
