-- What proofs cite of this crate's definitions.
pub use Rattle.dom_traversal.specs.ByOwner.{cursors_in, entries_of, table_at, Writes}
pub use Rattle.dom_traversal.specs.Cursors.{AllCursors, cursors_of, with_cursors}
pub use Rattle.dom_traversal.specs.Directions.{child_move, outer_child, sibling_in, sibling_move}
pub use Rattle.dom_traversal.specs.Filters.{filter_of, name_filter_of, show_of}
pub use Rattle.dom_traversal.specs.Iterators.{HasLeft, IsIteratorOf, iterator_at, iterator_found, iterator_left, iterator_rest, iterator_view, KeyedIterator}
pub use Rattle.dom_traversal.specs.Iterators.{stands_before, with_taken_out}
pub use Rattle.dom_traversal.specs.OwnTables.{AreLeft, EachItem, IsLeft, IsLeftIf, KeyedTables, no_keyed_tables}
pub use Rattle.dom_traversal.specs.References.{AreListed, AreNodes, AreOutside, AreSorted, AreTested, is_inside, IsBefore, IsUpTo, MayHaveLeft, reference_at}
pub use Rattle.dom_traversal.specs.Walkers.{Begins, BeginsBackward, BeginsForward, ComesBack, entered_by, is_accepted_but, is_candidate, is_entered, is_opened}
pub use Rattle.dom_traversal.specs.Walkers.{is_passable, is_reached, is_stop, IsWalkerOf, KeyedWalker, reached_from, StepsBehind, StepsBeside, stop_above}
pub use Rattle.dom_traversal.specs.Walkers.{stop_of, walker_at, walker_left, walker_rest, walker_view}
pub use Rattle.dom_traversal.specs.declared.by_owner.ByOwner.{ByOwner}
pub use Rattle.dom_traversal.specs.declared.iter.Direction.{Direction}
pub use Rattle.dom_traversal.specs.declared.iter.Direction.TheVariants.{Next, Previous}
pub use Rattle.dom_traversal.specs.declared.references.Reference.{Reference}
