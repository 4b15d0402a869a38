pub mod Attributes
pub mod AttributeValues
pub mod SignLaws
mod FewAttributes
mod NameIndexes
mod OwnNames
