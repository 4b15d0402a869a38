-- What a `Doc` holds, what contracts see of it, and of the algorithms. Unmarked: own rules, about what the code holds and its contracts
-- say.
pub mod Signalled
pub mod Documents
pub mod Contents
pub mod AllTables
pub mod Doc
pub mod Hosting
pub mod Ranging
pub mod Numbering
pub mod Observing
pub mod Ready
pub mod Still
pub mod Definitions
