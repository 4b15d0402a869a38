mod Names
mod Firsts
mod Commas
mod Parts
mod Lasts
pub mod StreamLaws
mod FedPieces
pub mod WholeLines
mod KeywordLaws
mod ShortOwners
