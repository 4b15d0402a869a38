pub mod PageSteps
pub mod OwnVisits
mod Touches
pub mod PagePaths
pub mod PageCommands
pub mod ComponentCommands
mod Lines
mod QuietVisits
mod FullTraces
pub mod PageTexts
mod QuietPages
mod PlainWords
mod SaidRuns
mod QuietTypes
mod PlainCommands
pub mod PlainLines
pub mod Families
pub mod GroupSlots
mod GroupSignals
pub mod GroupSteps
pub mod GroupPaths
pub mod OutsideViews
mod PathEnds
mod FirstVisits
mod TargetViews
mod LastVisits
mod SeenEvents
mod SeenValues
mod SeenLines
pub mod GroupDispatches
pub mod GroupTurns
mod TouchedTurns
pub mod GroupCommands
pub mod OutsideCommands
mod TouchedLines
mod GroupRuns
mod TouchedRuns
pub mod StrategyRuns
mod WordedRuns
pub mod GroupTexts
pub mod GroupStates
mod StatedLaws
