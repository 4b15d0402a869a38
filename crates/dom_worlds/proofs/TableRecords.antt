-- Steps with removals, records and iterators keep the tables of their part; and so does every step that fits.
use Rattle.dom_base.proofs.Std.{zero, suc, ◌≡◌, ◌≤◌, ◌<◌, ℕ, Bool, true, false, not, ◌||◌, List, [], ◌∷◌, ◌++◌, map, filter, fold, length, Option, Some, None}
use Rattle.dom_base.proofs.Std.{option_map, refl, sym, ap, ◌∙◌, arith, subst, if◌then◌else◌, IsTrue, ⊤, slice_get, slice_set, nat_eq, AllByRecursion, last_or}
use Rattle.dom_base.proofs.Std.{option_map_or, cond-true, cond-false, not-true, length-set, or_right, or_from, or_left}
use Rattle.dom_model.proofs.Model.{NodeName, times_in, Trees, Node, nodes, subtree, parent_of, index_of, inclusive_descendants, inclusive_ancestors}
use Rattle.dom_model.proofs.Model.{is_inclusive_ancestor, name_eq, is_in, first_of, last_of, items_after, items_before, append_once, without, taken_out, Range}
use Rattle.dom_model.proofs.Model.{map_ends, after_insert, after_removal, after_replace_data, after_split, after_join, Iterator, moved_to, adjusted_iterator}
use Rattle.dom_model.proofs.Model.{target_of, fits, fitting, interested, Registration, copied_from, copied_from_transient, transients_for, registrations_on}
use Rattle.dom_model.proofs.Model.{copied_source, is_transient, Change, Part, queue_of, Step, make, make_room, place, take_out, set_document, set_attribute}
use Rattle.dom_model.proofs.Model.{replace_data, split_at, join_at, set_range, queue_record, part_step, leave, told, interested_in, record_in, after}
use Rattle.dom_model.proofs.Model.{name_eq-true}
use Rattle.dom_worlds.specs.Definitions.{IsPart, IsNodeIn, EndsIn, IsIteratorIn, IsWalkerIn, IsSourceIn, IsRegistrationIn, IsListenerIn, HasTables}
use Rattle.dom_worlds.proofs.Lists.{all-distinct, all-append, all-then, all-filter, all-from, all-flat_map, all-map, all-set, by_cases, either_way}
use Rattle.dom_worlds.proofs.Lists.{by_some_is}
use Rattle.dom_worlds.proofs.Roots.{roots-equal, roots-same, roots-left}
use Rattle.dom_laws.proofs.Laws.{Once, by_times, times_subtree, first_inside}
use Rattle.dom_worlds.proofs.Trees.{nodes-there, root-there}
use Rattle.dom_worlds.proofs.TreeChangeLaws.{root-subtree}
use Rattle.dom_worlds.proofs.PartSteps.{part-step}
use Rattle.dom_worlds.proofs.KindLines.{has_node-times}
use Rattle.dom_worlds.proofs.Descents.{ancestor-inside, inside-ancestor, inside-left, inside-comparable, before-apart}
use Rattle.dom_worlds.proofs.Insides.{IsOutside, unique-taken_out, inside, inside-itself, inside-absent, inside-put_root, times-inside, times-taken_out_all}
use Rattle.dom_worlds.proofs.InsideAncestors.{inside-nested, inside-subtree, inside-no_ancestor, child-there, times-has_node}
use Rattle.dom_worlds.proofs.TableSteps.{Fits, MadeIn, Grows, grows-times, grows-step, ancestors-step, tables-trees, tables-ends, moves-insert, moves-removal}
use Rattle.dom_worlds.proofs.TableSteps.{tables-ranges, tables-telling, moves-data, moves-split, moves-join, walker-grows, registration-grows}

-- Records and transient registrations: of the registrations on a path.
all-registered : (P : Registration NodeName → Type 0) (path : List NodeName) (rs : List (Registration NodeName)) → AllByRecursion P rs →
    AllByRecursion P (registrations_on name_eq path rs)
all-registered P path rs h = all-flat_map P (λ x. filter (λ (r : Registration NodeName). name_eq r.node x) rs) path
    (all-from (λ x. AllByRecursion P (filter (λ (r : Registration NodeName). name_eq r.node x) rs))
    (λ x. all-filter P (λ (r : Registration NodeName). name_eq r.node x) rs h) path)

-- Registrations of some trees, and the observers below a number.
module _ (ts : Trees) (k : ℕ) where
  -- what a transient copy stems from
  source-copied : (r : Registration NodeName) → IsRegistrationIn ts k r → IsSourceIn ts (copied_source name_eq r)
  source-copied r h = either_way (IsSourceIn ts) (is_transient r.source) copied_from_transient (copied_from r.node) tt h.node

  -- the transient copies
  all-transients : (x : NodeName) (path : List NodeName) (rs : List (Registration NodeName)) → IsNodeIn ts x →
      AllByRecursion (IsRegistrationIn ts k) rs → AllByRecursion (IsRegistrationIn ts k) (transients_for name_eq x path rs)
  all-transients x path rs g h =
      let P = IsRegistrationIn ts k in
      let copy : Registration NodeName → Registration NodeName =
      λ r. record { node = x; observer = r.observer; options = r.options; source = copied_source name_eq r } in
      let chosen = filter (λ (r : Registration NodeName). r.options.subtree) (registrations_on name_eq path rs) in
      all-map P copy chosen (all-then P (λ r. P (copy r)) (λ r i. record { node = g; observer = i.observer; source = source-copied r i }) chosen
      (all-filter P (λ (r : Registration NodeName). r.options.subtree) (registrations_on name_eq path rs) (all-registered P path rs h)))

  -- the observers that are interested have their queues
  all-interested : (path : List NodeName) (rs : List (Registration NodeName)) (c : Change NodeName) →
      AllByRecursion (IsRegistrationIn ts k) rs → AllByRecursion (λ j. j < k) (interested name_eq path rs c)
  all-interested path rs c h =
      let P = IsRegistrationIn ts k in
      let fit = fitting name_eq path rs c in
      all-distinct (λ j. j < k) nat_eq (map (λ (r : Registration NodeName). r.observer) fit)
      (all-map (λ j. j < k) (λ (r : Registration NodeName). r.observer) fit
      (all-then P (λ r. r.observer < k) (λ r i. i.observer) fit
      (all-filter P (fits name_eq c) (registrations_on name_eq path rs) (all-registered P path rs h))))

-- observers that become pending
all-appended : (k : ℕ) (new old : List ℕ) → AllByRecursion (λ j. j < k) new → AllByRecursion (λ j. j < k) old →
    AllByRecursion (λ j. j < k) (fold (append_once nat_eq) old new)
all-appended k [] old h g = g
all-appended k (j ∷ new) old h g =
    all-appended k new (append_once nat_eq old j) h.1
    (either_way (AllByRecursion (λ j. j < k)) (is_in nat_eq j old) old (old ++ j ∷ []) g (all-append (λ j. j < k) old (j ∷ []) g (h.0, tt)))

-- queues that get records
pub queues-set : {X : Type 0} (f : List X → ℕ → X) (ks : List ℕ) (xs : List X) → length (fold (λ queues k. slice_set queues k (f queues k)) xs ks) ≡ length xs
queues-set f [] xs = refl
queues-set f (k ∷ ks) xs = queues-set f ks (slice_set xs k (f xs k)) ∙ length-set xs k (f xs k)

-- the part after a record
tables-told : (p : Part) (c : Change NodeName) → HasTables p → HasTables (told p c)
tables-told p c h =
    let who = interested_in p c in
    let same = queues-set (λ queues k. queue_of queues k ++ record_in p c k ∷ []) who p.record_queues in
    tables-telling h (subst (λ k. AllByRecursion (IsRegistrationIn p.trees k) p.registrations) (sym same) h.registrations)
    (subst (λ k. AllByRecursion (λ j. j < k) (told p c).pending) (sym same)
    (all-appended (length p.record_queues) who p.pending
    (all-interested p.trees (length p.record_queues) (inclusive_ancestors p.trees (target_of c)) p.registrations c h.registrations) h.pending)) h.listeners

-- Iterators at a removal: they move to nodes of their root's tree.
pub all-descend : (ts : Trees) (x : NodeName) → AllByRecursion (IsNodeIn ts) (inclusive_descendants ts x)
all-descend ts x =
    all-map (IsNodeIn ts) (λ (n : Node). n.name) (nodes (subtree ts x))
    (all-then (λ (n : Node). 1 ≤ times_in (subtree ts x) n.name) (λ n. IsNodeIn ts n.name)
    (λ n h. times-has_node ts n.name (let s = times_subtree ts x n.name in omega arith)) (nodes (subtree ts x)) (nodes-there (subtree ts x)))

-- the first of some items, and the last
abbrev pub IfSome : {X : Type 0} → (X → Type 0) → Option X → Type 0
IfSome P None = ⊤
IfSome P (Some x) = P x

-- the first
pub first-all : {X : Type 0} (P : X → Type 0) (xs : List X) → AllByRecursion P xs → IfSome P (first_of xs)
first-all P [] h = tt
first-all P (x ∷ xs) h = h.0

-- the last, or another
last-or-all : {X : Type 0} (P : X → Type 0) (o : Option X) (xs : List X) → IfSome P o → AllByRecursion P xs → IfSome P (last_or o xs)
last-or-all P o [] g h = g
last-or-all P o (x ∷ xs) g h = last-or-all P (Some x) xs h.0 h.1

-- the last
pub last-all : {X : Type 0} (P : X → Type 0) (xs : List X) → AllByRecursion P xs → IfSome P (last_of xs)
last-all P xs h = last-or-all P None xs tt h

-- what is found in a table
pub all-get : {X : Type 0} (P : X → Type 0) (xs : List X) (k : ℕ) → AllByRecursion P xs → IfSome P (slice_get xs k)
all-get P [] k h = tt
all-get P (x ∷ xs) zero h = h.0
all-get P (x ∷ xs) (suc k) h = all-get P xs k h.1

-- items before and behind one
pub before-all : (P : NodeName → Type 0) (x : NodeName) (xs : List NodeName) → AllByRecursion P xs → AllByRecursion P (items_before name_eq x xs)
before-all P x [] h = tt
before-all P x (y ∷ xs) h = either_way (AllByRecursion P) (name_eq x y) [] (y ∷ items_before name_eq x xs) tt (h.0, before-all P x xs h.1)

-- behind one
pub after-all : (P : NodeName → Type 0) (x : NodeName) (xs : List NodeName) → AllByRecursion P xs → AllByRecursion P (items_after name_eq x xs)
after-all P x [] h = tt
after-all P x (y ∷ xs) h = either_way (AllByRecursion P) (name_eq x y) xs (items_after name_eq x xs) h.1 (after-all P x xs h.1)

-- A node that stands in the tree of another one.
abbrev pub StandsIn : Trees → NodeName → NodeName → Type 0
StandsIn ts a y = IsNodeIn ts y × IsTrue (is_inclusive_ancestor ts a y)

-- an iterator that moves to a node of its root's tree
pub iterator-moved : (ts : Trees) (i : Iterator) (before : Bool) (o : Option NodeName) → IsIteratorIn ts i → IfSome (StandsIn ts i.root) o →
    IsIteratorIn ts (moved_to i before o)
iterator-moved ts i before None h g = h
iterator-moved ts i before (Some x) h g = record { root = h.root; reference = g.0; within = g.1 }

-- a moved iterator has its root
moved-root : (ts : Trees) (i : Iterator) (o b : Option NodeName) → IfSome (StandsIn ts i.root) b → IfSome (StandsIn ts (moved_to i false o).root) b
moved-root ts i None b h = h
moved-root ts i (Some x) b h = h

-- the nodes of a tree stand in it
pub all-stand : (ts : Trees) (x : NodeName) → Once ts → AllByRecursion (StandsIn ts x) (inclusive_descendants ts x)
all-stand ts x u =
    all-map (StandsIn ts x) (λ (n : Node). n.name) (nodes (subtree ts x))
    (all-then (λ (n : Node). 1 ≤ times_in (subtree ts x) n.name) (λ n. StandsIn ts x n.name)
    (λ n h. (
      times-has_node ts n.name (let s = times_subtree ts x n.name in omega arith),
      inside-ancestor ts x n.name u
          (let s = times-inside ts x n.name in omega arith),
    )) (nodes (subtree ts x)) (nodes-there (subtree ts x)))

-- Where a node leaves, no node is lost.
grows-taken_out : (ts : Trees) (x : NodeName) → Once ts → Grows ts (taken_out x ts)
grows-taken_out ts x u = grows-times ts (taken_out x ts) (λ y. let a = times-taken_out_all ts x y u in omega arith)

-- What stood in a tree and not in its own still stands there.
left-stands : {ts : Trees} {x y : NodeName} (a : NodeName) → Once ts → IsOutside ts x y → 1 ≤ inside ts a y → StandsIn (taken_out x ts) a y
left-stands {ts} {x} {y} a u o g =
    let h = o.apart in
    let t = o.there in (
      times-has_node (taken_out x ts) y (let same = times-taken_out_all ts x y u in omega arith),
      inside-ancestor (taken_out x ts) a y (unique-taken_out ts x u)
          (let l = inside-left ts x a y u h in let p = inside-put_root x (subtree ts x) (without x ts) a y in omega arith),
    )

-- the items that pass a test, with it
pub all-kept : {X : Type 0} (P : X → Type 0) (test : X → Bool) (xs : List X) → AllByRecursion P xs →
    AllByRecursion (λ x. P x × (test x ≡ true)) (filter test xs)
all-kept P test [] h = tt
all-kept {X = X} P test (x ∷ xs) h =
    let Q : X → Type 0 = λ x. P x × (test x ≡ true) in
    by_cases (test x) (λ e. subst (AllByRecursion Q) (sym (cond-true (test x) (x ∷ filter test xs) (filter test xs) e)) ((h.0, e), all-kept P test xs h.1))
    (λ e. subst (AllByRecursion Q) (sym (cond-false (test x) (x ∷ filter test xs) (filter test xs) e)) (all-kept P test xs h.1))

-- an iterator at the last of some nodes, where there is one
moved-last : (Q : Iterator → Type 0) (i : Iterator) (y : NodeName) (xs : List NodeName) → Q (record i { reference = y; before = false }) →
    AllByRecursion (λ x. Q (record i { reference = x; before = false })) xs → Q (moved_to i false (last_or (Some y) xs))
moved-last Q i y [] h g = h
moved-last Q i y (x ∷ xs) h g = moved-last Q i x xs g.0 g.1

-- at the last of nodes of which one is there
moved-front : {xs : List NodeName} {y : NodeName} {ys : List NodeName} (Q : Iterator → Type 0) (i : Iterator) → xs ≡ y ∷ ys →
    AllByRecursion (λ x. Q (record i { reference = x; before = false })) xs → Q (moved_to i false (last_of xs))
moved-front {y} {ys} Q i e h =
    let both = subst (AllByRecursion (λ x. Q (record i { reference = x; before = false }))) e h in
    subst (λ zs. Q (moved_to i false (last_of zs))) (sym e) (moved-last Q i y ys both.0 both.1)

-- the iterator where it is not adjusted
adjusted-not : (ts : Trees) (x : NodeName) (i : Iterator) →
    (is_inclusive_ancestor ts x i.root || not (is_inclusive_ancestor ts x i.reference)) ≡ true → adjusted_iterator ts x i ≡ i
adjusted-not ts x i e = cond-true (is_inclusive_ancestor ts x i.root || not (is_inclusive_ancestor ts x i.reference)) i _ e

-- A node and another one.
module _ (ts : Trees) (x y : NodeName) where
  -- the nodes in its tree, read alone
  pub inside-alone : Once ts → inside ts x y ≤ times_in (subtree ts x) y
  inside-alone u =
      by_times (times_in ts x) (λ z. let a = inside-absent ts x y z in omega arith)
      (λ z. inside-nested ts x x y u (root-there (subtree ts x) x (root-subtree ts x z)))

  -- an inclusive ancestor of an inclusive ancestor is one
  pub above-above : (z : NodeName) → Once ts → is_inclusive_ancestor ts x y ≡ true → is_inclusive_ancestor ts y z ≡ true →
      is_inclusive_ancestor ts x z ≡ true
  above-above z u h k =
      let over = ancestor-inside ts x y h in
      let under = ancestor-inside ts y z k in
      let alone = inside-alone u in
      let nested = inside-nested ts x y z u (omega arith) in
      let all = times-inside ts x z in inside-ancestor ts x z u (omega arith)

-- an iterator before the removal of a node, as it is after it
iterator-left : {ts : Trees} {i : Iterator} (x : NodeName) → Once ts → IsIteratorIn ts i → IsIteratorIn (taken_out x ts) (adjusted_iterator ts x i)
iterator-left {ts} {i} x u h =
    let us = taken_out x ts in
    let v = unique-taken_out ts x u in
    let g = grows-taken_out ts x u in
    let root = i.root in
    let P = IsIteratorIn us in
    let here = λ (y : NodeName). is_inclusive_ancestor ts x y in
    let all = inclusive_descendants ts root in
    let held = ancestor-inside ts root i.reference h.within in
    let there : NodeName → Type 0 = StandsIn us root in
    let put = λ (a z : NodeName). inside-put_root x (subtree ts x) (without x ts) a z in
    by_cases (here root)
    (λ e. subst P (sym (adjusted-not ts x i (or_left (here root) (not (here i.reference)) e)))
    (record {
      root = g root h.root;
      reference = g i.reference h.reference;
      within = inside-ancestor us root i.reference v
          (let a = ancestor-inside ts x root e in
          let n : 1 ≤ times_in (subtree ts x) root = let s = inside-alone ts x root u in omega arith in
          let k = inside-subtree ts x root i.reference u n in let q = put root i.reference in omega arith);
    }))
    (λ e. by_cases (here i.reference)
    (λ k. let above = inside-no_ancestor ts x root u e in
    let mine = ancestor-inside ts x i.reference k in
    let below = inside-comparable ts root x i.reference u (record { first = held; second = mine; apart = above }) in
    let at = first_inside ts root (has_node-times ts root h.root) in
    let other : name_eq x root ≡ false =
    by_cases (name_eq x root) (λ z. absurd
    (let same = name_eq-true x root z in let t = inside-itself ts root (has_node-times ts root h.root) in let w = ap
    (λ y. inside ts y root) same in omega arith)) (λ z. z) in
    let front = items_before name_eq x all in
    let begins : front ≡ root ∷ items_before name_eq x at.0 =
    ap (items_before name_eq x) at.1 ∙ cond-false (name_eq x root) [] (root ∷ items_before name_eq x at.0) other in
    let front-all : AllByRecursion there front =
    all-then (λ y. (1 ≤ times_in (subtree ts root) y) × (inside (subtree ts root) x y ≡ 0)) there
    (λ y m. let m0 = m.0 in let m1 = m.1 in
    let n : IsNodeIn ts y = times-has_node ts y (let s = times_subtree ts root y in omega arith) in
    left-stands root u (record { there = has_node-times ts y n; apart = let s = inside-subtree ts root x y u below in omega arith })
    (let s = times-inside ts root y in omega arith))
    front (before-apart (subtree ts root) x (λ y. let s = times_subtree ts root y in let o = u y in omega arith)) in
    let behind = first_of (filter (λ y. not (here y)) (items_after name_eq x all)) in
    let behind-there : IfSome there behind =
    first-all there (filter (λ y. not (here y)) (items_after name_eq x all))
    (all-then (λ y. StandsIn ts root y × (not (here y) ≡ true)) there
    (λ y m. let m0 : StandsIn ts root y = m.0 in
    left-stands root u (record { there = has_node-times ts y m0.0; apart = inside-no_ancestor ts x y u (not-true (here y) m.1) })
    (ancestor-inside ts root y m0.1))
    (filter (λ y. not (here y)) (items_after name_eq x all))
    (all-kept (StandsIn ts root) (λ y. not (here y)) (items_after name_eq x all) (after-all (StandsIn ts root) x all (all-stand ts root u)))) in
    let back : P (moved_to i false (last_of front)) =
    moved-front P i begins
    (all-then there (λ y. P (record i { reference = y; before = false })) (λ y m. record { root = g root h.root; reference = m.0; within = m.1 })
    front front-all) in
    let no_test : (here root || not (here i.reference)) ≡ false = or_from (here root) (not (here i.reference)) e (ap not k) in
    subst P (sym (cond-false (here root || not (here i.reference)) i
    (if i.before then moved_to (moved_to i false (last_of front)) true behind else moved_to i false (last_of front)) no_test))
    (either_way P i.before (moved_to (moved_to i false (last_of front)) true behind) (moved_to i false (last_of front))
    (iterator-moved us (moved_to i false (last_of front)) true behind back (moved-root us i (last_of front) behind behind-there)) back))
    (λ k. subst P (sym (adjusted-not ts x i (or_right (here root) (not (here i.reference)) (ap not k))))
    (let stands = left-stands root u
    (record { there = has_node-times ts i.reference h.reference; apart = inside-no_ancestor ts x i.reference u k }) held in
    record { root = g root h.root; reference = stands.0; within = stands.1 })))

-- The ends of a range where a node leaves: they keep one root.
ends-left : {parent : NodeName} (ts : Trees) (x : NodeName) → Once ts → parent_of ts x ≡ Some parent → (r : Option (Range NodeName)) → EndsIn ts r →
    EndsIn (taken_out x ts) (option_map (map_ends (after_removal name_eq (is_inclusive_ancestor ts x) parent (index_of ts x))) r)
ends-left ts x u e None h = tt
ends-left {parent} ts x u e (Some r) h =
    let g = grows-taken_out ts x u in
    let move = after_removal name_eq (is_inclusive_ancestor ts x) parent (index_of ts x) in
    let a = moves-removal ts x u e r.start h.start in
    let b = moves-removal ts x u e r.end h.end in
    let y = (move r.start).node in
    let z = (move r.end).node in
    record {
      start = g y a.0.0;
      end = g z b.0.0;
      one_root = roots-same (taken_out x ts) y z
          (roots-left u (record { there = has_node-times ts y a.0.0; apart = a.1 }) (record { there = has_node-times ts z b.0.0; apart = b.1 })
          (a.0.1 ∙ roots-equal ts r.start.node r.end.node h.one_root ∙ sym b.0.1));
    }

-- A node leaves its parent.
tables-left : {p : Part} {parent : NodeName} (x : NodeName) → IsPart p → parent_of p.trees x ≡ Some parent → HasTables p → HasTables (leave p x parent)
tables-left {p} {parent} x i e h =
    let ts = p.trees in
    let us = taken_out x ts in
    let k = length p.record_queues in
    let move = after_removal name_eq (is_inclusive_ancestor ts x) parent (index_of ts x) in
    let g = grows-taken_out ts x i.unique in
    let registered = all-append (IsRegistrationIn ts k) p.registrations (transients_for name_eq x (inclusive_ancestors ts parent) p.registrations)
    h.registrations
    (all-transients ts k x (inclusive_ancestors ts parent) p.registrations (times-has_node ts x (child-there ts x parent e)) h.registrations) in
    record {
      hosts = all-then (IsNodeIn ts) (IsNodeIn us) g p.attached h.hosts;
      ranges = all-map (EndsIn us) (option_map (map_ends move)) p.ranges
          (all-then (EndsIn ts) (λ r. EndsIn us (option_map (map_ends move) r)) (ends-left ts x i.unique e) p.ranges h.ranges);
      iterators = all-map (IsIteratorIn us) (adjusted_iterator ts x) p.iterators
          (all-then (IsIteratorIn ts) (λ j. IsIteratorIn us (adjusted_iterator ts x j)) (λ j. iterator-left x i.unique) p.iterators
          h.iterators);
      walkers = all-then (IsWalkerIn ts) (IsWalkerIn us) (walker-grows ts us g) p.walkers h.walkers;
      registrations = all-then (IsRegistrationIn ts k) (IsRegistrationIn us k) (registration-grows ts us g k)
          (p.registrations ++ transients_for name_eq x (inclusive_ancestors ts parent) p.registrations) registered;
      pending = h.pending;
      listeners = all-then (IsListenerIn ts) (IsListenerIn us) (λ l. g l.node) p.listeners h.listeners;
    }

-- Every step that fits keeps the tables.
pub tables-step : (p : Part) (s : Step) → IsPart p → Fits p s → HasTables p → HasTables (part_step p s)
tables-step p (make n) i f h = tables-trees (part_step p (make n)).trees (suc p.node_count) (part-step p (make n) i).unique
    (grows-step p (make n) i f) (ancestors-step p (make n) i f tt) h
tables-step p (make_room parent index count) i f h = tables-ends p (after_insert name_eq parent index count) (moves-insert p.trees parent index count) h
tables-step p (place x parent before) i f h =
    tables-trees (part_step p (place x parent before)).trees p.node_count (part-step p (place x parent before) i).unique
    (grows-step p (place x parent before) i f) (ancestors-step p (place x parent before) i f tt) h
tables-step p (take_out x) i f h =
    by_some_is (λ (o : Option NodeName). HasTables (option_map_or (leave p x) o p)) (parent_of p.trees x) (λ e. h) (λ parent e. tables-left x i e h)
tables-step p (set_document x d) i f h =
    tables-trees (part_step p (set_document x d)).trees p.node_count (part-step p (set_document x d) i).unique
    (grows-step p (set_document x d) i f) (ancestors-step p (set_document x d) i f tt) h
tables-step p (set_attribute x a v) i f h =
    tables-trees (part_step p (set_attribute x a v)).trees p.node_count (part-step p (set_attribute x a v) i).unique
    (grows-step p (set_attribute x a v) i f) (ancestors-step p (set_attribute x a v) i f tt) h
tables-step p (replace_data x offset count new) i f h =
    let us = (part_step p (replace_data x offset count new)).trees in
    tables-ends (record p { trees = us }) (after_replace_data name_eq x offset count (length new)) (moves-data us x offset count (length new))
    (tables-trees us p.node_count (part-step p (replace_data x offset count new) i).unique
    (grows-step p (replace_data x offset count new) i f) (ancestors-step p (replace_data x offset count new) i f tt) h)
tables-step p (split_at x offset new parent index) i f h =
    tables-ends p (after_split name_eq x offset new parent index)
    (moves-split p.trees parent index x offset new (times-has_node p.trees new f.0) f.1) h
tables-step p (join_at first size next parent index) i f h =
    tables-ends p (after_join name_eq first size next parent index)
    (moves-join p.trees parent index first size next (times-has_node p.trees first f.0) f.1 f.2) h
tables-step p (set_range k r) i f h =
    tables-ranges h (all-set (EndsIn p.trees) p.ranges k (Some r) h.ranges
    (record {
      start = times-has_node p.trees r.start.node f.0;
      end = times-has_node p.trees r.end.node f.1;
      one_root = roots-same p.trees r.start.node r.end.node f.2;
    }))
tables-step p (queue_record c) i f h = tables-told p c h

-- and so do all steps, each where it is made
pub tables-after : (p : Part) (steps : List Step) → IsPart p → MadeIn p steps → HasTables p → HasTables (after p steps)
tables-after p [] i m h = h
tables-after p (s ∷ steps) i m h = tables-after (part_step p s) steps (part-step p s i) m.1 (tables-step p s i m.0 h)
