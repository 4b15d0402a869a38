-- The text of the line protocol. Unmarked: own rules, those of the line protocol.
pub mod Words
pub mod Lines
pub mod Tokens
pub mod Readers
pub mod LineParts
pub mod Forms
pub mod Commands
pub mod Grammar
pub mod Decode
pub mod Text
pub mod Laws
pub mod Definitions
