-- Unmarked: own rules, those of the line protocol and of answers as values.
pub mod TextLaws
pub mod Parts
pub mod Arrays
pub mod Told
pub mod ToldLaws
