-- What other crates cite of live ranges, and the ends of ranges within their nodes.
pub use Rattle.dom_worlds.proofs.Bounds.{RangeUnder, length-replaced, nowhere, reach}
pub use Rattle.dom_worlds.proofs.RangeBounds.{room-removals, child-there_in}
pub use Rattle.dom_worlds.proofs.TextBounds.{joining-fits, room-normalizing_text, text-data, total}
pub use Rattle.dom_worlds.proofs.BoundLines.{under-at}
pub use Rattle.dom_worlds.proofs.KeptOffsets.{adoption-keeps, attribute-keeps, attribute_removal-keeps, bounds-of, data-keeps, deletion-keeps, extraction-keeps}
pub use Rattle.dom_worlds.proofs.KeptOffsets.{insertion-keeps, join_at-keeps, make-keeps, normalization-keeps, queue_record-keeps, range_insertion-keeps}
pub use Rattle.dom_worlds.proofs.KeptOffsets.{removal-keeps, replacement-keeps, room-of, set_document-keeps, set_range-keeps, split-keeps, text_content-keeps}
pub use Rattle.dom_worlds.proofs.RangeInsertions.{tail-child}
pub use Rattle.dom_worlds.proofs.ExtractionPlans.{common-read}
pub use Rattle.dom_worlds.proofs.Bounds.{Under, HasRoom, length-like, ranges-more}
