-- What accepted commands do to ranges, iterators and walkers: they keep to nodes that are there.
use Rattle.dom_base.proofs.Std.{◌≡◌, ℕ, Bool, true, false, not, ◌&&◌, List, filter, drop, Option, Some, None, option_map, refl, sym, ◌≤◌, [], ◌∷◌, ◌++◌, find}
use Rattle.dom_base.proofs.Std.{option_map_or, and_parts, AllByRecursion}
use Rattle.dom_model.proofs.Model.{NodeName, Command, NodeWord, named, answers, Effect, tables, changes, with_range, collapsed_to, moves_iterator}
use Rattle.dom_model.proofs.Model.{sets_walker, name_eq, first_of, last_of, items_before, items_after, Part, Boundary, same_root, is_before, Range}
use Rattle.dom_model.proofs.Model.{from_to, with_start, with_end, Trees, Node, has_node, is_inclusive_ancestor, ancestors, inclusive_ancestors}
use Rattle.dom_model.proofs.Model.{inclusive_descendants, times_in, Move, Parent, First, Last, Next, Previous, NextSibling, PreviousSibling, Value}
use Rattle.dom_model.proofs.Model.{nothing, Iterator, Walker, iterator_next_node, iterator_previous_node, nodes_ahead, nodes_passed, accepts}
use Rattle.dom_model.proofs.Model.{walker_move, walker_step, walker_children, walker_nodes, walker_siblings}
use Rattle.dom_worlds.specs.Definitions.{IsPart, IsNodeIn, HasEnds, EndsIn, HasTables, IsIteratorIn, IsWalkerIn}
use Rattle.dom_worlds.proofs.Effects.{IsPartAccepted}
use Rattle.dom_worlds.proofs.InsideAncestors.{inside-no_ancestor, times-has_node}
use Rattle.dom_worlds.proofs.KindLines.{has_node-times}
use Rattle.dom_worlds.proofs.Owners.{owner-named}
use Rattle.dom_worlds.proofs.PlanPlaces.{MayGo}
use Rattle.dom_worlds.proofs.TableSteps.{HasNode, MadeIn, tables-iterators, tables-ranges, tables-walkers}
use Rattle.dom_worlds.proofs.TableRecords.{IfSome, StandsIn, all-stand, first-all, last-all, before-all, after-all, all-descend, iterator-moved}
use Rattle.dom_worlds.proofs.Roots.{roots-equal, roots-same}
use Rattle.dom_worlds.proofs.Lists.{which_way, all-set, all-dropped, all-append, all-then, all-filter, either_way}
use Rattle.dom_laws.proofs.Laws.{Once}
use Rattle.dom_worlds.proofs.Trees.{ancestors-there}
use Rattle.dom_worlds.proofs.Placings.{insertion-tested, replacement-tested}

-- the tables after an effect, or its steps
abbrev pub Holds : Part → Effect → Type 0
Holds p (tables q lines v) = HasTables q
Holds p (changes steps v) = MadeIn p steps

-- what is not above a node may go there
pub named-may : {p : Part} (x : NodeWord) (parent : NodeName) → IsPart p → HasNode p (named p x) → HasNode p parent →
    is_inclusive_ancestor p.trees (named p x) parent ≡ false → MayGo parent p (named p x)
named-may {p} x parent i t b h = record { there = t; owner = owner-named p x; below = b; apart = inside-no_ancestor p.trees (named p x) parent i.unique h }

-- Nodes that a command names are there.
pub exists-first : (p : Part) (x : NodeWord) (rest thing : Bool) → ((has_node p.trees (named p x) && rest) && thing) ≡ true → HasNode p (named p x)
exists-first p x rest thing h = has_node-times p.trees (named p x)
    (and_parts (has_node p.trees (named p x)) rest (and_parts (has_node p.trees (named p x) && rest) thing h).0).0

-- the second one
pub exists-second : (p : Part) (x y : NodeWord) (rest thing : Bool) →
    ((has_node p.trees (named p x) && (has_node p.trees (named p y) && rest)) && thing) ≡ true → HasNode p (named p y)
exists-second p x y rest thing h =
    let more = has_node p.trees (named p y) && rest in
    has_node-times p.trees (named p y) (and_parts (has_node p.trees (named p y)) rest
    (and_parts (has_node p.trees (named p x)) more (and_parts (has_node p.trees (named p x) && more) thing h).0).1).0

-- the third of three
pub exists-third : (p : Part) (x y z : NodeWord) →
    ((has_node p.trees (named p x) && (has_node p.trees (named p y) && (has_node p.trees (named p z) && true))) && true) ≡ true → HasNode p (named p z)
exists-third p x y z h =
    let last = has_node p.trees (named p z) && true in
    let more = has_node p.trees (named p y) && last in
    let both = and_parts (has_node p.trees (named p x)) more (and_parts (has_node p.trees (named p x) && more) true h).0 in
    has_node-times p.trees (named p z) (and_parts (has_node p.trees (named p z)) true (and_parts (has_node p.trees (named p y)) last both.1).1).0

-- A command that places a node: it may go to its parent.
module _ {p : Part} (i : IsPart p) (a x : NodeWord) where
  -- behind the last child
  pub append-may : IsPartAccepted p (Command.append a x) → MayGo (named p a) p (named p x)
  append-may k =
      named-may x (named p a) i (exists-second p a x true true k.exist) (exists-first p a (has_node p.trees (named p x) && true) true k.exist)
      (insertion-tested p.trees (named p a) (named p x) None k.own).apart

  -- before a child, or in its place
  module _ (c : NodeWord) where
    abbrev rest : Bool
    rest = has_node p.trees (named p c) && true

    pub insert-may : IsPartAccepted p (Command.insert a x c) → MayGo (named p a) p (named p x)
    insert-may k =
        named-may x (named p a) i (exists-second p a x rest true k.exist) (exists-first p a (has_node p.trees (named p x) && rest) true k.exist)
        (insertion-tested p.trees (named p a) (named p x) (Some (named p c)) k.own).apart

    pub replace-may : IsPartAccepted p (Command.replace a x c) → MayGo (named p a) p (named p x)
    replace-may k =
        named-may x (named p a) i (exists-second p a x rest true k.exist) (exists-first p a (has_node p.trees (named p x) && rest) true k.exist)
        (replacement-tested p.trees (named p a) (named p x) (named p c) k.own).apart

-- what holds in each case holds of what is made of a thing that may not be there
pub some-holds : {X : Type 0} {P : X → Type 0} (p : Part) (o : Option X) (f : X → Effect) → IfSome P o → ((x : X) → P x → Holds p (f x)) → HasTables p →
    Holds p (option_map_or f o (answers p nothing))
some-holds p None f g each h = h
some-holds p (Some x) f g each h = each x g

-- a range that is written
pub tables-range : (p : Part) (k : ℕ) (r : Option (Range NodeName)) → HasTables p → EndsIn p.trees r → HasTables (with_range p k r)
tables-range p k r h e =
    tables-ranges h (all-set (EndsIn p.trees) p.ranges k r h.ranges e)

-- with other ends
pub ends-mapped : (ts : Trees) (f : Range NodeName → Range NodeName) → ((r : Range NodeName) → HasEnds ts r → HasEnds ts (f r)) →
    (o : Option (Range NodeName)) → EndsIn ts o → EndsIn ts (option_map f o)
ends-mapped ts f g None h = tt
ends-mapped ts f g (Some r) h = g r h

-- another start or end
pub ends-with_start : (ts : Trees) (b : Boundary NodeName) → IsNodeIn ts b.node → (r : Range NodeName) → HasEnds ts r → HasEnds ts (with_start ts b r)
ends-with_start ts b t r h =
    which_way (HasEnds ts) (same_root ts b.node r.end.node && not (is_before ts r.end b)) (from_to b r.end) (from_to b b)
    (λ e. record { start = t; end = h.end; one_root = (and_parts (same_root ts b.node r.end.node) (not (is_before ts r.end b)) e).0 })
    (λ e. record { start = t; end = t; one_root = roots-same ts b.node b.node refl })

-- another end
pub ends-with_end : (ts : Trees) (b : Boundary NodeName) → IsNodeIn ts b.node → (r : Range NodeName) → HasEnds ts r → HasEnds ts (with_end ts b r)
ends-with_end ts b t r h =
    which_way (HasEnds ts) (same_root ts b.node r.start.node && not (is_before ts b r.start)) (from_to r.start b) (from_to b b)
    (λ e. record {
      start = h.start;
      end = t;
      one_root = roots-same ts r.start.node b.node
          (sym (roots-equal ts b.node r.start.node (and_parts (same_root ts b.node r.start.node) (not (is_before ts b r.start)) e).0));
    })
    (λ e. record { start = t; end = t; one_root = roots-same ts b.node b.node refl })

-- both at one of them
pub ends-collapsed : (ts : Trees) (to_start : Bool) (r : Range NodeName) → HasEnds ts r → HasEnds ts (collapsed_to to_start r)
ends-collapsed ts true r h = record { start = h.start; end = h.start; one_root = roots-same ts r.start.node r.start.node refl }
ends-collapsed ts false r h = record { start = h.end; end = h.end; one_root = roots-same ts r.end.node r.end.node refl }

-- Iterators and walkers move to nodes that are there.
module _ (ts : Trees) (i : Iterator) (u : Once ts) (h : IsIteratorIn ts i) where
  abbrev Stands : NodeName → Type 0
  Stands = StandsIn ts i.root

  abbrev around : List NodeName
  around = inclusive_descendants ts i.root

  -- those of some nodes that the filter accepts
  accepted-stand : (xs : List NodeName) → AllByRecursion Stands xs → AllByRecursion Stands (filter (accepts ts i.filter) xs)
  accepted-stand xs a = all-filter Stands (accepts ts i.filter) xs a

  pub iterator-next : IfSome Stands (iterator_next_node ts i)
  iterator-next =
      let behind = after-all Stands i.reference around (all-stand ts i.root u) in
      first-all Stands (filter (accepts ts i.filter) (nodes_ahead ts i)) (accepted-stand (nodes_ahead ts i)
      (either_way (AllByRecursion Stands) i.before (i.reference ∷ items_after name_eq i.reference around) (items_after name_eq i.reference around)
      ((h.reference, h.within), behind) behind))

  -- backwards
  pub iterator-previous : IfSome Stands (iterator_previous_node ts i)
  iterator-previous =
      let passed = items_before name_eq i.reference around in
      let front = before-all Stands i.reference around (all-stand ts i.root u) in
      last-all Stands (filter (accepts ts i.filter) (nodes_passed ts i)) (accepted-stand (nodes_passed ts i)
      (either_way (AllByRecursion Stands) i.before passed (passed ++ i.reference ∷ []) front
      (all-append Stands passed (i.reference ∷ []) front ((h.reference, h.within), tt))))

-- an iterator that moves
pub tables-iterator : {p : Part} {i : Iterator} (k : ℕ) (before : Bool) (o : Option NodeName) → HasTables p → IsIteratorIn p.trees i →
    IfSome (StandsIn p.trees i.root) o → Holds p (moves_iterator p k before i o)
tables-iterator {p} {i} k before o h g m =
    tables-iterators h (all-set (IsIteratorIn p.trees) p.iterators k _ h.iterators (iterator-moved p.trees i before o g m))

-- what is found among nodes
find-all : (P : NodeName → Type 0) (test : NodeName → Bool) (xs : List NodeName) → AllByRecursion P xs → IfSome P (find test xs)
find-all P test [] h = tt
find-all P test (x ∷ xs) h = either_way (IfSome P) (test x) (Some x) (find test xs) h.0 (find-all P test xs h.1)

-- ancestors are nodes
all-ancestors : (ts : Trees) (x : NodeName) → AllByRecursion (IsNodeIn ts) (ancestors ts x)
all-ancestors ts x = all-dropped (IsNodeIn ts) (inclusive_ancestors ts x)
    (all-then (λ y. 1 ≤ times_in ts y) (IsNodeIn ts) (times-has_node ts) (inclusive_ancestors ts x) (ancestors-there ts x))

-- a step of a walker
walker-stepped : (ts : Trees) (w : Walker) (m : Move) → IfSome (IsNodeIn ts) (walker_step ts w m)
walker-stepped ts w Parent = either_way (IfSome (IsNodeIn ts)) (name_eq w.current w.root) None
    (find (λ y. accepts ts w.filter y && is_inclusive_ancestor ts w.root y) (ancestors ts w.current)) tt
    (find-all (IsNodeIn ts) (λ y. accepts ts w.filter y && is_inclusive_ancestor ts w.root y) (ancestors ts w.current) (all-ancestors ts w.current))
walker-stepped ts w First = first-all (IsNodeIn ts) (walker_children ts w)
    (all-filter (IsNodeIn ts) _ (drop 1 (inclusive_descendants ts w.current))
    (all-dropped (IsNodeIn ts) (inclusive_descendants ts w.current) (all-descend ts w.current)))
walker-stepped ts w Last = last-all (IsNodeIn ts) (walker_children ts w)
    (all-filter (IsNodeIn ts) _ (drop 1 (inclusive_descendants ts w.current))
    (all-dropped (IsNodeIn ts) (inclusive_descendants ts w.current) (all-descend ts w.current)))
walker-stepped ts w Next =
    let items = items_after name_eq w.current (inclusive_descendants ts w.root) in
    first-all (IsNodeIn ts) (walker_nodes ts w items)
    (all-filter (IsNodeIn ts) _ items (after-all (IsNodeIn ts) w.current (inclusive_descendants ts w.root) (all-descend ts w.root)))
walker-stepped ts w Previous =
    let items = items_before name_eq w.current (inclusive_descendants ts w.root) in
    last-all (IsNodeIn ts) (walker_nodes ts w items)
    (all-filter (IsNodeIn ts) _ items (before-all (IsNodeIn ts) w.current (inclusive_descendants ts w.root) (all-descend ts w.root)))
walker-stepped ts w NextSibling =
    let items = items_after name_eq w.current (inclusive_descendants ts w.root) in
    either_way (IfSome (IsNodeIn ts)) (name_eq w.current w.root) None (first_of (walker_siblings ts w items)) tt
    (first-all (IsNodeIn ts) (walker_siblings ts w items)
    (all-filter (IsNodeIn ts) _ items (after-all (IsNodeIn ts) w.current (inclusive_descendants ts w.root) (all-descend ts w.root))))
walker-stepped ts w PreviousSibling =
    let items = items_before name_eq w.current (inclusive_descendants ts w.root) in
    either_way (IfSome (IsNodeIn ts)) (name_eq w.current w.root) None (last_of (walker_siblings ts w items)) tt
    (last-all (IsNodeIn ts) (walker_siblings ts w items)
    (all-filter (IsNodeIn ts) _ items (before-all (IsNodeIn ts) w.current (inclusive_descendants ts w.root) (all-descend ts w.root))))

-- a move of a walker
pub walker-moved : (ts : Trees) (w : Walker) (m : Move) → IfSome (IsNodeIn ts) (walker_move ts w m)
walker-moved ts w m = either_way (IfSome (IsNodeIn ts)) (is_inclusive_ancestor ts w.root w.current) (walker_step ts w m) None (walker-stepped ts w m) tt

-- a walker that is set
pub tables-walker : {p : Part} {w : Walker} (k : ℕ) (o : Option NodeName) (v : Value) → HasTables p → IsWalkerIn p.trees w → IfSome (IsNodeIn p.trees) o →
    Holds p (sets_walker p k w o v)
tables-walker k None v h g m = h
tables-walker {p} k (Some x) v h g m =
    tables-walkers h (all-set (IsWalkerIn p.trees) p.walkers k _ h.walkers (record { root = g.root; current = m }))
