-- Laws of the definitions.
pub mod ListOrder
pub mod OwnerLaws
pub mod OwnerTests
pub mod PartLaws
pub mod StepLaws
pub mod TurnLaws
pub mod KindLaws
pub mod ObserverLaws
pub mod Model
