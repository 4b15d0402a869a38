-- What holds of the tables of every part of a world that the machine reaches: the nodes and the observers that they name
-- are there.
use Rattle.std.specs.Prelude.{◌<◌, ℕ, IsTrue, length, Option, Some, None, ⊤}
use Rattle.std.specs.List.{AllByRecursion}
use Rattle.dom_base.specs.declared.Owner.{Owner}
use Rattle.dom_base.specs.declared.NodeName.{NodeName}
use Rattle.dom_model.specs.Tree.{Trees, has_node, is_inclusive_ancestor}
use Rattle.dom_model.specs.Listeners.{Listener}
use Rattle.dom_model.specs.Output.{Change, child_list, attributes, character_data}
use Rattle.dom_model.specs.Observers.{Registration, Source, asked_for, copied_from, copied_from_transient}
use Rattle.dom_model.specs.Part.{Part, first_node}
use Rattle.dom_model.specs.Place.{same_root}
use Rattle.dom_model.specs.Ranges.{Range}
use Rattle.dom_model.specs.Traversal.{Iterator, Walker}
use Rattle.dom_model.specs.World.{World, part_of, trees_with}
use Rattle.dom_worlds.specs.Worlds.{IsThere}

-- the name has a node
abbrev pub IsNodeIn : Trees → NodeName → Type 0
IsNodeIn ts x = IsTrue (has_node ts x)

-- Both ends of a range are at nodes, which have one root (own rule; DOM Standard, 5.5: range's root).
pub record HasEnds (ts : Trees) (r : Range NodeName) : Type 0 where
  pub start : IsNodeIn ts r.start.node
  pub end : IsNodeIn ts r.end.node
  pub one_root : IsTrue (same_root ts r.start.node r.end.node)

-- of a range that was not dropped
abbrev pub EndsIn : Trees → Option (Range NodeName) → Type 0
EndsIn ts None = ⊤
EndsIn ts (Some r) = HasEnds ts r

-- An iterator's root and reference are nodes, and the reference is an inclusive descendant of the root.
pub record IsIteratorIn (ts : Trees) (i : Iterator) : Type 0 where
  pub root : IsNodeIn ts i.root
  pub reference : IsNodeIn ts i.reference
  pub within : IsTrue (is_inclusive_ancestor ts i.root i.reference)

-- A walker's root and current node are nodes.
pub record IsWalkerIn (ts : Trees) (w : Walker) : Type 0 where
  pub root : IsNodeIn ts w.root
  pub current : IsNodeIn ts w.current

-- the node from which a transient registration was copied is a node
abbrev pub IsSourceIn : Trees → Source NodeName → Type 0
IsSourceIn ts asked_for = ⊤
IsSourceIn ts (copied_from x) = IsNodeIn ts x
IsSourceIn ts copied_from_transient = ⊤

-- A registration is on a node, and of one of so many observers.
pub record IsRegistrationIn (ts : Trees) (observers : ℕ) (r : Registration NodeName) : Type 0 where
  pub node : IsNodeIn ts r.node
  pub observer : r.observer < observers
  pub source : IsSourceIn ts r.source

-- a node, if there is one
abbrev pub IsNodeIf : Trees → Option NodeName → Type 0
IsNodeIf ts None = ⊤
IsNodeIf ts (Some x) = IsNodeIn ts x

-- what a record names are nodes (DOM Standard, interface MutationRecord)
abbrev pub IsRecordIn : Trees → Change NodeName → Type 0
IsRecordIn ts (child_list x added removed before behind) = IsNodeIn ts x × AllByRecursion (IsNodeIn ts) added ×
    AllByRecursion (IsNodeIn ts) removed × IsNodeIf ts before × IsNodeIf ts behind
IsRecordIn ts (attributes x a old) = IsNodeIn ts x
IsRecordIn ts (character_data x old) = IsNodeIn ts x

-- in the record queues of a part, which are to be told or taken
abbrev pub HasRecords : Part → Type 0
HasRecords p = AllByRecursion (AllByRecursion (IsRecordIn p.trees)) p.record_queues

-- a listener is on a node
abbrev pub IsListenerIn : Trees → Listener NodeName → Type 0
IsListenerIn ts l = IsNodeIn ts l.node

-- The nodes that the tables of a part name are its nodes, and the observers have their record queues.
pub record HasTables (p : Part) : Type 0 where
  pub hosts : AllByRecursion (IsNodeIn p.trees) p.attached
  pub ranges : AllByRecursion (EndsIn p.trees) p.ranges
  pub iterators : AllByRecursion (IsIteratorIn p.trees) p.iterators
  pub walkers : AllByRecursion (IsWalkerIn p.trees) p.walkers
  pub registrations : AllByRecursion (IsRegistrationIn p.trees (length p.record_queues)) p.registrations
  pub pending : AllByRecursion (λ k. k < length p.record_queues) p.pending
  pub listeners : AllByRecursion (IsListenerIn p.trees) p.listeners

-- a slot is a node of its owner's trees
abbrev pub IsNodeAt : World → NodeName → Type 0
IsNodeAt w x = IsNodeIn (trees_with w x) x

-- Each part is such, and so are its records; each owner that is there has its first node; and the signalled slots are nodes.
pub record IsWhole (w : World) : Type 0 where
  pub tables : (o : Owner) → HasTables (part_of w o)
  pub records : (o : Owner) → HasRecords (part_of w o)
  pub first : (o : Owner) → IsThere w o → IsNodeIn (part_of w o).trees (first_node (part_of w o))
  pub signalled : AllByRecursion (IsNodeAt w) w.signalled
