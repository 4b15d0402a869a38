-- What proofs cite of this crate's definitions.
pub use Rattle.dom_mutation.specs.AllTables.{AllTables, AreFirst, AreTablesOf, first_tables, IsOwnIterator, IsOwnWalker, IsSettled, no_slots, tables_view}
pub use Rattle.dom_mutation.specs.AllTables.{tables_with, tables_with_trees, trees_with, with_live, with_observers, with_queue, with_signals, with_table}
pub use Rattle.dom_mutation.specs.Contents.{Contents, part_in, part_with, Tables, world_of}
pub use Rattle.dom_mutation.specs.Doc.{adding_refusal, adoption_refusal, after_telling, all_tables, AreNodes, attaching_refusal, change_in, contents}
pub use Rattle.dom_mutation.specs.Doc.{cutting_tail, DocState, HoldsNode, IsChild, IsDoc, IsDue, IsOwnNode, IsReadFrom, JoinsFit, KeepsPaths, made, Makes}
pub use Rattle.dom_mutation.specs.Doc.{MakesSaying, MayCome, MayMove, name_in, named_trees, NamesNodes, none_pending, NoneAbove, nothing_left, notice_in}
pub use Rattle.dom_mutation.specs.Doc.{notices_of, owner_in, placed_all, planned}
pub use Rattle.dom_mutation.specs.Doc.{putting_text, shown_tables, splitting_refusal, state_from, stepped, trees_in, with_tasks, world_from}
pub use Rattle.dom_mutation.specs.Hosting.{AreHostsOf, AreMadeBehind, attached_of, component_named, document_in, documents_in, forest_in, host_names}
pub use Rattle.dom_mutation.specs.Hosting.{host_owners, hosts_of, IsAlone, IsAttached, IsMadeAs, IsOwnPart, maker_of, outermost_root, PlansOwn}
pub use Rattle.dom_mutation.specs.Hosting.{SetsOwnDocuments, shadows_in, signal_in, signals_in}
pub use Rattle.dom_mutation.specs.Numbering.{AreNumbered}
pub use Rattle.dom_mutation.specs.Observing.{observing_of}
pub use Rattle.dom_mutation.specs.Ranging.{AreOwnRanges, AreRangesOf, IsOwnPoint, IsRuleOf, ranged}
pub use Rattle.dom_mutation.specs.Ready.{AreReady, IsReady, IsReadyPart, MayStand}
pub use Rattle.dom_mutation.specs.Still.{DropsNone, HasNodes, HasStill, HasStillAll, HasStillTables}
