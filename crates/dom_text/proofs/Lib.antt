mod Examples
mod RefusedExamples
pub mod LineLaws
pub mod WordLaws
mod PartLaws
pub mod NumberLaws
mod NodeLaws
mod NameLaws
mod CommandParts
mod CommandForms
mod CommandLaws
pub mod DecodeLaws
pub mod TextLaws
mod PrintableLines
pub mod OutputLaws
