-- What the callers' contracts name beside the words of the crates called. Unmarked: own rules, about what the code holds and its contracts say.
pub mod Editing
pub mod Focus
pub mod Fronts
pub mod Headings
pub mod Items
pub mod Labels
pub mod Moving
pub mod Notes
pub mod Words
pub mod Widgets
