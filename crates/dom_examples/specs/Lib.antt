-- Unmarked: own rules, what an example is.
pub mod Example
pub mod TreeExamples
pub mod ObserverExamples
pub mod RangeExamples
pub mod CursorExamples
pub mod SelectorExamples
pub mod EventExamples
pub mod ProtocolExamples
pub mod LineExamples
pub mod SaidExamples
pub mod PathExamples
pub mod NestingExamples
