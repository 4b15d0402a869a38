-- What other crates cite is passed on by the modules that are `pub`; the others state and prove it.
pub mod ListLemmas
pub mod TreeLemmas
pub mod ShadowTreeLemmas
pub mod OwnerLemmas
pub mod CommandLemmas
pub mod PlanLemmas
pub mod RangeLemmas
pub mod TurnLemmas
pub mod WorldLemmas
mod Lists
mod KindCases
mod ShadowTrees
mod Turns
mod Trees
mod Owners
mod Chains
mod Invariants
mod Effects
mod Placings
mod Spared
mod SparedPlans
mod StepKeeps
mod TreeChangeLaws
mod PartSteps
mod Plans
mod BlindPlans
mod Rules
mod ShadowRoots
mod WorldSteps
mod OwnerSteps
mod Reached
mod KindLines
mod Insides
mod InsideAncestors
mod Descents
mod Roots
mod TableSteps
mod TableRecords
mod ChildCounts
mod PlanPlaces
mod PlanChildren
mod PlanTexts
mod PlanRoots
mod PlanContents
mod Recorded
mod RecordedPlans
mod TableCommands
mod TableRegisters
mod TableLines
mod TableWorlds
mod Bounds
mod RangeBounds
mod PlacedBounds
mod TextBounds
mod ChildPairs
mod BoundWorlds
mod BoundLines
mod RangeInsertions
mod Contained
mod KeptOffsets
mod FollowPaths
mod RangePlans
mod ExtractionPlans
