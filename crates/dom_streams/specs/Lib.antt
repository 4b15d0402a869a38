-- Unmarked: own rules, about sources, sinks and views.
pub mod Streams
pub mod Writing
pub mod Views
pub mod Piece
