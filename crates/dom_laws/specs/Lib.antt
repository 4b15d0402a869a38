-- Unmarked: own rules, in which laws of trees are said.
pub mod Within
pub mod Siblings
