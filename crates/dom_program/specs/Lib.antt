-- Unmarked: own rules, about the program's words, buffers and endings.
pub mod Buffers
pub mod Exits
pub mod Words
