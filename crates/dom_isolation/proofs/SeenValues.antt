-- What a command answers names nodes of its owner alone, but for `docof`, which names the node document; and so do the records that it takes.
use Rattle.dom_base.proofs.Std.{◌≡◌, ℕ, zero, suc, ◌≤◌, Bool, true, false, List, [], ◌∷◌, ◌++◌, drop, map, Option, Some, None, option_to_list, refl, ◌∙◌}
use Rattle.dom_base.proofs.Std.{subst, ⊤, option_flatten, AllByRecursion, slice_get, slice_set, option_map_or, arith}
use Rattle.dom_model.proofs.Model.{Owner, NodeName, Command, part_refusal, effect, named, Effect, tables, changes, answers, sets_walker, moves_iterator}
use Rattle.dom_model.proofs.Model.{Iterator, Walker, iterator_next_node, iterator_previous_node, walker_move, node_or_null, string_or_null, Value, nothing}
use Rattle.dom_model.proofs.Model.{Said}
use Rattle.dom_model.proofs.Model.{recorded, Change, child_list, attributes, character_data, Part, queue_of, range_at, Range, names_of, nodes, roots}
use Rattle.dom_model.proofs.Model.{first_of, Node, World, a_node, a_string, boundaries, reference, attribute_value, range_text_of, selector_matches}
use Rattle.dom_model.proofs.Model.{selectors_of, descendants}
use Rattle.dom_model.proofs.Model.{subtree, trees_below, parent_of, inclusive_ancestors, inclusive_descendants, children_of, times_in, first_node, node_in}
use Rattle.dom_worlds.specs.Definitions.{IsPart, HasTables, HasRecords, HasEnds, EndsIn, IsIteratorIn, IsWalkerIn, IsNodeIn, IsRecordIn, IsNodeIf}
use Rattle.dom_worlds.proofs.ListLemmas.{all-append, all-dropped, all-filter, all-map, all-then, get-all}
use Rattle.dom_worlds.proofs.TreeLemmas.{ancestors-there, nodes-there, roots-there, times-below}
use Rattle.dom_worlds.proofs.CommandLemmas.{has_node-times, Holds, holds-effect}
use Rattle.dom_laws.proofs.Laws.{times_subtree}
use Rattle.dom_isolation.specs.Definitions.{nodes_of_value, nodes_of_change, NamesNodes}

-- what stands at a place where it was set
set-at : {X : Type 0} (P : X → Type 0) (xs : List X) (k : ℕ) {x : X} (y : X) → slice_get xs k ≡ Some x → AllByRecursion P (slice_set xs k y) → P y
set-at P [] k y e h = cc
set-at P (z ∷ xs) zero y e h = h.0
set-at P (z ∷ xs) (suc k) y e h = set-at P xs k y e h.1

-- A part as a world that the machine reaches has it.
pub record IsKnown (p : Part) : Type 0 where
  pub part : IsPart p
  pub tables : HasTables p
  pub records : HasRecords p

module _ (o : Owner) (p : Part) (mine : p.owner ≡ o) (k : IsKnown p) where
  -- a node of the owner
  abbrev Own : NodeName → Type 0
  Own x = x.owner ≡ o

  -- a node that is there
  owned : (x : NodeName) → 1 ≤ times_in p.trees x → Own x
  owned x h = k.part.owned x h ∙ mine

  -- a node of the trees
  is-own : (x : NodeName) → IsNodeIn p.trees x → Own x
  is-own x h = owned x (has_node-times p.trees x h)

  -- if there is one
  if-own : (m : Option NodeName) → IsNodeIf p.trees m → AllByRecursion Own (option_to_list m)
  if-own None h = tt
  if-own (Some x) h = (is-own x h, tt)

  -- ancestors
  ancestors-own : (x : NodeName) → AllByRecursion Own (inclusive_ancestors p.trees x)
  ancestors-own x = all-then (λ y. 1 ≤ times_in p.trees y) Own owned (inclusive_ancestors p.trees x) (ancestors-there p.trees x)

  -- a parent
  parent-own : (x : NodeName) → AllByRecursion Own (nodes_of_value (node_or_null (parent_of p.trees x)))
  parent-own x = from (inclusive_ancestors p.trees x) (ancestors-own x)
    where
      of_first : (ys : List NodeName) → AllByRecursion Own ys → AllByRecursion Own (nodes_of_value (node_or_null (first_of ys)))
      of_first [] h = tt
      of_first (y ∷ ys) h = (h.0, tt)

      from : (ys : List NodeName) → AllByRecursion Own ys → AllByRecursion Own (nodes_of_value (node_or_null (first_of (drop 1 ys))))
      from ys h = of_first (drop 1 ys) (all-dropped Own ys h)

  -- the nodes of a tree
  tree-own : (x : NodeName) → AllByRecursion Own (names_of (nodes (subtree p.trees x)))
  tree-own x =
      let below = subtree p.trees x in
      all-map Own (λ (n : Node). n.name) (nodes below)
      (all-then (λ (n : Node). 1 ≤ times_in below n.name) (λ n. Own n.name)
      (λ n h. owned n.name (let within = times_subtree p.trees x n.name in omega (arith, h, within))) (nodes below) (nodes-there below))

  -- children
  children-own : (x : NodeName) → AllByRecursion Own (children_of p.trees x)
  children-own x =
      let below = trees_below (subtree p.trees x) in
      all-then (λ y. 1 ≤ times_in below y) Own
      (λ y h. owned y (let a = times-below (subtree p.trees x) y in let b = times_subtree p.trees x y in omega (arith, h, a, b)))
      (names_of (roots below)) (roots-there below)

  -- records
  record-own : (c : Change NodeName) → IsRecordIn p.trees c → AllByRecursion Own (nodes_of_change c)
  record-own (child_list x added removed before after) h = (
    is-own x h.0,
    all-append Own added (removed ++ (option_to_list before ++ option_to_list after)) (all-then (IsNodeIn p.trees) Own is-own added h.1)
        (all-append Own removed (option_to_list before ++ option_to_list after) (all-then (IsNodeIn p.trees) Own is-own removed h.2)
        (all-append Own (option_to_list before) (option_to_list after) (if-own before h.3) (if-own after h.4))),
  )
  record-own (attributes x a old) h = (is-own x h, tt)
  record-own (character_data x old) h = (is-own x h, tt)

  -- all of a queue
  abbrev pub OwnQueue : List (Change NodeName) → Type 0
  OwnQueue cs = AllByRecursion (λ c. AllByRecursion Own (nodes_of_change c)) cs

  -- of all queues
  pub queues-own : AllByRecursion OwnQueue p.record_queues
  queues-own =
      all-then (AllByRecursion (IsRecordIn p.trees)) OwnQueue
      (λ cs h. all-then (IsRecordIn p.trees) (λ c. AllByRecursion Own (nodes_of_change c)) record-own cs h) p.record_queues k.records

  -- What an effect says and answers names nodes of the owner.
  abbrev pub OwnValue : Value → Type 0
  OwnValue v = AllByRecursion Own (nodes_of_value v)

  -- a line before the answer
  abbrev pub OwnSaid : Said → Type 0
  OwnSaid s = (w : World) → NamesNodes w o s

  -- an effect
  abbrev pub OwnEffect : Effect → Type 0
  OwnEffect (tables q lines v) = AllByRecursion OwnSaid lines × OwnValue v
  OwnEffect (changes steps v) = ⊤ × OwnValue v

  -- records that are taken
  taken-own : (j : ℕ) → AllByRecursion OwnSaid (map (recorded j) (queue_of p.record_queues j))
  taken-own j = all-map OwnSaid (recorded j) (queue_of p.record_queues j) (of_queue p.record_queues j queues-own)
    where
      as_said : (cs : List (Change NodeName)) → OwnQueue cs → AllByRecursion (λ c. OwnSaid (recorded j c)) cs
      as_said cs h = all-then (λ c. AllByRecursion Own (nodes_of_change c)) (λ c. OwnSaid (recorded j c)) (λ c g w. g) cs h

      of_queue : (queues : List (List (Change NodeName))) (i : ℕ) → AllByRecursion OwnQueue queues →
          AllByRecursion (λ c. OwnSaid (recorded j c)) (queue_of queues i)
      of_queue [] i h = tt
      of_queue (q ∷ qs) zero h = as_said q h.0
      of_queue (q ∷ qs) (suc i) h = of_queue qs i h.1

  -- of a thing that may not be there
  own-some : {X : Type 0} (m : Option X) (f : X → Effect) → ((x : X) → m ≡ Some x → OwnEffect (f x)) → OwnEffect (option_map_or f m (answers p nothing))
  own-some None f h = (tt, tt)
  own-some (Some x) f h = h x refl

  -- a string or `null`
  own-string : (m : Option (List ℕ)) → OwnValue (string_or_null m)
  own-string None = tt
  own-string (Some s) = tt

  -- an iterator that moves, by what the tables are then
  own-iterator : (j : ℕ) (before : Bool) (i : Iterator) (m : Option NodeName) → slice_get p.iterators j ≡ Some i → Holds p (moves_iterator p j before i m) →
      OwnEffect (moves_iterator p j before i m)
  own-iterator j before i None e h = (tt, tt)
  own-iterator j before i (Some x) e h = (tt, (is-own x (set-at (IsIteratorIn p.trees) p.iterators j _ e h.iterators).reference, tt))

  -- a walker that is set
  own-walker : (j : ℕ) (w : Walker) (m : Option NodeName) → slice_get p.walkers j ≡ Some w → Holds p (sets_walker p j w m (node_or_null m)) →
      OwnEffect (sets_walker p j w m (node_or_null m))
  own-walker j w None e h = (tt, tt)
  own-walker j w (Some x) e h = (tt, (is-own x (set-at (IsWalkerIn p.trees) p.walkers j _ e h.walkers).current, tt))

-- What an effect of an accepted command answers names nodes of the owner, but for `docof`.
module _ (p : Part) (k : IsKnown p) (first : IsNodeIn p.trees (first_node p)) where
  -- of the owner of the part
  abbrev pub OwnOf : Effect → Type 0
  OwnOf e = OwnEffect p.owner p refl k e

  -- a command other than `docof`
  abbrev pub IsOther : Command → Type 0
  IsOther (Command.document_of x) = ⊥
  IsOther c = ⊤

  -- every other command
  pub own-effect : (c : Command) → IsOther c → part_refusal p c ≡ None → OwnOf (effect p c)
  own-effect (Command.document_of x) off h = absurd off
  own-effect (Command.new_element a) off h = (tt, (refl, tt))
  own-effect (Command.new_text a) off h = (tt, (refl, tt))
  own-effect (Command.new_comment a) off h = (tt, (refl, tt))
  own-effect Command.new_fragment off h = (tt, (refl, tt))
  own-effect Command.new_document off h = (tt, (refl, tt))
  own-effect (Command.split x i) off h = (tt, (refl, tt))
  own-effect (Command.extract r) off h = (tt, (refl, tt))
  own-effect (Command.tree x) off h = (tt, tree-own p.owner p refl k (named p x))
  own-effect (Command.attribute x a) off h = (tt, own-string p.owner p refl k (attribute_value (node_in p.trees (named p x)) a))
  own-effect (Command.parent x) off h = (tt, parent-own p.owner p refl k (named p x))
  own-effect (Command.children x) off h = (tt, children-own p.owner p refl k (named p x))
  own-effect (Command.range_get r) off h =
      own-some p.owner p refl k (range_at p r) (λ range. answers p (boundaries range.start range.end))
      (λ range e. let ends = range-ends r range e in
      (tt, (is-own p.owner p refl k range.start.node ends.start, (is-own p.owner p refl k range.end.node ends.end, tt))))
    where
      range-ends : (r : ℕ) (range : Range NodeName) → range_at p r ≡ Some range → HasEnds p.trees range
      range-ends r range e = from (slice_get p.ranges r) refl e
        where
          from : (m : Option (Option (Range NodeName))) → slice_get p.ranges r ≡ m → option_flatten m ≡ Some range → HasEnds p.trees range
          from None is e = cc
          from (Some None) is e = cc
          from (Some (Some other)) is e =
              let same : other ≡ range = cc in
              subst (HasEnds p.trees) same (get-all (EndsIn p.trees) p.ranges r (Some other) k.tables.ranges is)
  own-effect (Command.range_text r) off h =
      own-some p.owner p refl k (range_at p r) (λ range. answers p (a_string (range_text_of p.trees range))) (λ range e. (tt, tt))
  own-effect (Command.iterator_next j) off h =
      own-some p.owner p refl k (slice_get p.iterators j) (λ i. moves_iterator p j false i (iterator_next_node p.trees i))
      (λ i e. own-iterator p.owner p refl k j false i (iterator_next_node p.trees i) e
      (subst (λ m. Holds p (option_map_or (λ i. moves_iterator p j false i (iterator_next_node p.trees i)) m (answers p nothing))) e
      (holds-effect p k.part k.tables first (Command.iterator_next j) h)))
  own-effect (Command.iterator_previous j) off h =
      own-some p.owner p refl k (slice_get p.iterators j) (λ i. moves_iterator p j true i (iterator_previous_node p.trees i))
      (λ i e. own-iterator p.owner p refl k j true i (iterator_previous_node p.trees i) e
      (subst (λ m. Holds p (option_map_or (λ i. moves_iterator p j true i (iterator_previous_node p.trees i)) m (answers p nothing))) e
      (holds-effect p k.part k.tables first (Command.iterator_previous j) h)))
  own-effect (Command.iterator_at j) off h =
      own-some p.owner p refl k (slice_get p.iterators j) (λ i. answers p (reference i.reference i.before))
      (λ i e. (tt, (is-own p.owner p refl k i.reference (get-all (IsIteratorIn p.trees) p.iterators j i k.tables.iterators e).reference, tt)))
  own-effect (Command.walk j m) off h =
      own-some p.owner p refl k (slice_get p.walkers j) (λ w. sets_walker p j w (walker_move p.trees w m) (node_or_null (walker_move p.trees w m)))
      (λ w e. own-walker p.owner p refl k j w (walker_move p.trees w m) e
      (subst (λ q. Holds p (option_map_or (λ w. sets_walker p j w (walker_move p.trees w m) (node_or_null (walker_move p.trees w m))) q (answers p nothing))) e
      (holds-effect p k.part k.tables first (Command.walk j m) h)))
  own-effect (Command.walker_at j) off h =
      own-some p.owner p refl k (slice_get p.walkers j) (λ w. answers p (a_node w.current))
      (λ w e. (tt, (is-own p.owner p refl k w.current (get-all (IsWalkerIn p.trees) p.walkers j w k.tables.walkers e).current, tt)))
  own-effect (Command.walker_set j x) off h =
      own-some p.owner p refl k (slice_get p.walkers j) (λ w. sets_walker p j w (Some (named p x)) nothing) (λ w e. (tt, tt))
  own-effect (Command.take j) off h = (taken-own p.owner p refl k j, tt)
  own-effect (Command.query x s) off h = (
    tt,
    all-filter (Own p.owner p refl k) (selector_matches p.trees (selectors_of s)) (descendants p.trees (named p x))
        (all-dropped (Own p.owner p refl k) (inclusive_descendants p.trees (named p x)) (tree-own p.owner p refl k (named p x))),
  )
  own-effect c off h = (tt, tt)
