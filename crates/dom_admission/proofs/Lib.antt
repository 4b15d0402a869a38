mod Cited
mod Admitting
pub mod Finding
pub mod Handling
pub mod OwnRefusals
pub mod Refusing
pub mod Turned
