-- What other crates cite.
pub mod Std
