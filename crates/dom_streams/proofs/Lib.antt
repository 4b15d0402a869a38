pub mod WriteLaws
mod ViewLaws
