-- A step that loses no node keeps the tables of its part, where what it names is there.
use Rattle.dom_base.proofs.Std.{◌≡◌, ◌≤◌, ℕ, Bool, true, false, not, ◌&&◌, ◌||◌, List, [], ◌∷◌, map, length, Option, Some, None, option_map, refl, sym, ap, ◌∙◌}
use Rattle.dom_base.proofs.Std.{arith, subst, ◌<◌, if◌then◌else◌, IsTrue, ⊤, nat_eq, nat_lt, nat_le, ◌+◌, ◌-◌, AllByRecursion, option_map_or, and_parts}
use Rattle.dom_model.proofs.Model.{NodeName, name_eq, Trees, Node, parent_of, root_of, index_of, is_inclusive_ancestor, times_in, map_nodes, with_name}
use Rattle.dom_model.proofs.Model.{Boundary, Range, at, map_ends, boundary_eq, after_insert, after_removal, after_replace_data, after_split, after_join}
use Rattle.dom_model.proofs.Model.{Iterator, Walker, Change, Listener, Registration, Source, asked_for, copied_from, copied_from_transient, Part, next_name}
use Rattle.dom_model.proofs.Model.{Step, make, place, take_out, set_document, set_attribute, replace_data, split_at, join_at, set_range, part_step, leave}
use Rattle.dom_model.proofs.Model.{with_ends, name_eq-true}
use Rattle.dom_worlds.specs.Definitions.{IsPart, IsNodeIn, EndsIn, IsIteratorIn, IsWalkerIn, IsSourceIn, IsRegistrationIn, IsListenerIn, HasTables}
use Rattle.dom_worlds.proofs.Lists.{all-then, all-map, either_way, which_way, by_some}
use Rattle.dom_worlds.proofs.Roots.{KeepsRoots, parent-apart, root-one, root-parent_of, roots-equal, roots-same, roots-stay}
use Rattle.dom_laws.proofs.Laws.{Once}
use Rattle.dom_worlds.proofs.TreeChangeLaws.{times-with_node, times-map_nodes, HasRoot}
use Rattle.dom_worlds.proofs.PartSteps.{KeepsNames, part-step, attribute_put, attribute_put-keeps, data_put, data_put-keeps, document_put, document_put-keeps}
use Rattle.dom_worlds.proofs.KindLines.{has_node-times}
use Rattle.dom_worlds.proofs.Descents.{ancestor-inside, inside-ancestor, inside-placed_all, inside-with_node_all}
use Rattle.dom_worlds.proofs.Insides.{CanPlace, inside, inside-map_nodes, times-taken_out_all, times-placed_all}
use Rattle.dom_worlds.proofs.InsideAncestors.{inside-no_ancestor, parent-there, times-has_node}

-- A node is there, by its count.
abbrev pub HasNode : Part → NodeName → Type 0
HasNode p x = 1 ≤ times_in p.trees x

-- What a step may name in the part in which it is made: a node is placed below another one that does not stand in its
-- tree, and is a root before; and boundaries are moved to nodes that are there and have their roots.
abbrev pub Fits : Part → Step → Type 0
Fits p (place x parent before) = HasNode p parent × (inside p.trees x parent ≡ 0) × HasRoot p.trees x
Fits p (set_document x d) = x.owner ≡ p.owner
Fits p (split_at x offset new parent index) = HasNode p new × (root_of p.trees new ≡ root_of p.trees x)
Fits p (join_at first size next parent index) = HasNode p first × (root_of p.trees first ≡ root_of p.trees next) ×
    (root_of p.trees first ≡ root_of p.trees parent)
Fits p (set_range k r) = HasNode p r.start.node × HasNode p r.end.node × (root_of p.trees r.start.node ≡ root_of p.trees r.end.node)
Fits p s = ⊤

-- steps that each fit where they are made
abbrev pub MadeIn : Part → List Step → Type 0
MadeIn p [] = ⊤
MadeIn p (s ∷ steps) = Fits p s × MadeIn (part_step p s) steps

-- nodes with other contents
mapped-stays : (f : Node → Node) → KeepsNames f → (ts : Trees) (y : NodeName) → times_in ts y ≤ times_in (map_nodes f ts) y
mapped-stays f h ts y = let same = times-map_nodes f (λ n. (h n).0) ts y in omega arith

-- what fits may be placed
pub fits-place : {p : Part} {x parent : NodeName} (before : Option NodeName) → IsPart p → Fits p (place x parent before) → CanPlace p.trees x parent
fits-place before i f = record { unique = i.unique; below = record { there = f.0; apart = f.1 } }

-- no node is lost
pub stays-step : (p : Part) (s : Step) → IsPart p → Fits p s → (y : NodeName) → times_in p.trees y ≤ times_in (part_step p s).trees y
stays-step p (make n) i h y = let a = times-with_node (with_name (next_name p) n) p.trees y in omega arith
stays-step p (place x parent before) i h y = let a = times-placed_all before y (fits-place before i h) in omega arith
stays-step p (take_out x) i h y =
    by_some (λ (o : Option NodeName). times_in p.trees y ≤ times_in (option_map_or (leave p x) o p).trees y) (parent_of p.trees x) (omega arith)
    (λ parent. let a = times-taken_out_all p.trees x y i.unique in omega arith)
stays-step p (set_document x d) i h y = mapped-stays (document_put p.trees x d) (document_put-keeps p.trees x d) p.trees y
stays-step p (set_attribute x a v) i h y = mapped-stays (attribute_put x a v) (attribute_put-keeps x a v) p.trees y
stays-step p (replace_data x offset count new) i h y = mapped-stays (data_put x offset count new) (data_put-keeps x offset count new) p.trees y
stays-step p s i h y = omega arith

-- The trees have the nodes of others, and perhaps more.
abbrev pub Grows : Trees → Trees → Type 0
Grows ts us = (y : NodeName) → IsNodeIn ts y → IsNodeIn us y

-- by the counts
pub grows-times : (ts us : Trees) → ((y : NodeName) → times_in ts y ≤ times_in us y) → Grows ts us
grows-times ts us h y k = times-has_node us y (let a = h y in let b = has_node-times ts y k in omega arith)

-- under a step
pub grows-step : (p : Part) (s : Step) → IsPart p → Fits p s → Grows p.trees (part_step p s).trees
grows-step p s i h = grows-times p.trees (part_step p s).trees (stays-step p s i h)

-- Inclusive ancestors stay such.
abbrev pub Stays : Trees → Trees → Type 0
Stays ts us = (a z : NodeName) → IsTrue (is_inclusive_ancestor ts a z) → IsTrue (is_inclusive_ancestor us a z)

-- by the counts
stays-inside : (ts us : Trees) → Once us → ((a z : NodeName) → inside ts a z ≤ inside us a z) → Stays ts us
stays-inside ts us u h a z k = inside-ancestor us a z u (let b = ancestor-inside ts a z k in let c = h a z in omega arith)

-- a step by which no node leaves its parent
abbrev TakesNone : Step → Type 0
TakesNone (take_out x) = ⊥
TakesNone s = ⊤

-- nodes with other contents
mapped-inside : (f : Node → Node) → KeepsNames f → (ts : Trees) (a z : NodeName) → inside ts a z ≤ inside (map_nodes f ts) a z
mapped-inside f h ts a z = let same = inside-map_nodes f (λ n. (h n).0) ts a z in omega arith

-- under such a step
inside-step : {p : Part} (s : Step) → IsPart p → Fits p s → TakesNone s → (a z : NodeName) → inside p.trees a z ≤ inside (part_step p s).trees a z
inside-step {p} (make n) i h t a z = inside-with_node_all (with_name (next_name p) n) p.trees a z
inside-step {p} (place x parent before) i h t a z = inside-placed_all before a z (fits-place before i h) h.2
inside-step (take_out x) i h t a z = absurd t
inside-step {p} (set_document x d) i h t a z = mapped-inside (document_put p.trees x d) (document_put-keeps p.trees x d) p.trees a z
inside-step {p} (set_attribute x b v) i h t a z = mapped-inside (attribute_put x b v) (attribute_put-keeps x b v) p.trees a z
inside-step {p} (replace_data x offset count new) i h t a z = mapped-inside (data_put x offset count new) (data_put-keeps x offset count new) p.trees a z
inside-step s i h t a z = omega arith

-- ancestors stay
pub ancestors-step : (p : Part) (s : Step) → IsPart p → Fits p s → TakesNone s → Stays p.trees (part_step p s).trees
ancestors-step p s i h t = stays-inside p.trees (part_step p s).trees (part-step p s i).unique (inside-step s i h t)

-- What tables name stays.
module _ (ts us : Trees) (g : Grows ts us) where
  -- ends of ranges
  pub ends-grow : KeepsRoots ts us → (r : Option (Range NodeName)) → EndsIn ts r → EndsIn us r
  ends-grow k None h = tt
  ends-grow k (Some r) h =
      record {
        start = g r.start.node h.start;
        end = g r.end.node h.end;
        one_root = roots-same us r.start.node r.end.node
            (k r.start.node r.end.node (has_node-times ts r.start.node h.start) (has_node-times ts r.end.node h.end)
            (roots-equal ts r.start.node r.end.node h.one_root));
      }

  -- iterators
  iterator-grows : Stays ts us → (i : Iterator) → IsIteratorIn ts i → IsIteratorIn us i
  iterator-grows k i h = record { root = g i.root h.root; reference = g i.reference h.reference; within = k i.root i.reference h.within }

  -- walkers
  pub walker-grows : (w : Walker) → IsWalkerIn ts w → IsWalkerIn us w
  walker-grows w h = record { root = g w.root h.root; current = g w.current h.current }

  -- sources of registrations
  source-grows : (s : Source NodeName) → IsSourceIn ts s → IsSourceIn us s
  source-grows asked_for h = tt
  source-grows (copied_from x) h = g x h
  source-grows copied_from_transient h = tt

  -- registrations
  pub registration-grows : (k : ℕ) (r : Registration NodeName) → IsRegistrationIn ts k r → IsRegistrationIn us k r
  registration-grows k r h = record { node = g r.node h.node; observer = h.observer; source = source-grows r.source h.source }

-- A part with other trees, and another count.
pub tables-trees : {p : Part} (us : Trees) (count : ℕ) → Once us → Grows p.trees us → Stays p.trees us → HasTables p →
    HasTables (record p { trees = us; node_count = count })
tables-trees {p} us count u g k h =
    let ts = p.trees in
    record {
      hosts = all-then (IsNodeIn ts) (IsNodeIn us) g p.attached h.hosts;
      ranges = all-then (EndsIn ts) (EndsIn us) (ends-grow ts us g (roots-stay ts us u k)) p.ranges h.ranges;
      iterators = all-then (IsIteratorIn ts) (IsIteratorIn us) (iterator-grows ts us g k) p.iterators h.iterators;
      walkers = all-then (IsWalkerIn ts) (IsWalkerIn us) (walker-grows ts us g) p.walkers h.walkers;
      registrations = all-then (IsRegistrationIn ts (length p.record_queues)) (IsRegistrationIn us (length p.record_queues))
          (registration-grows ts us g (length p.record_queues)) p.registrations h.registrations;
      pending = h.pending;
      listeners = all-then (IsListenerIn ts) (IsListenerIn us) (λ l. g l.node) p.listeners h.listeners;
    }

-- A boundary's node is there, and has the root of another node.
abbrev pub IsUnder : Trees → NodeName → Boundary NodeName → Type 0
IsUnder ts x c = IsNodeIn ts c.node × (root_of ts c.node ≡ root_of ts x)

-- Boundaries that are moved to nodes that are there, and have the same root.
abbrev pub MovesIn : Trees → (Boundary NodeName → Boundary NodeName) → Type 0
MovesIn ts f = (b : Boundary NodeName) → IsNodeIn ts b.node → IsUnder ts b.node (f b)

-- the ends of a range
ends-moved : (ts : Trees) (f : Boundary NodeName → Boundary NodeName) → MovesIn ts f → (r : Option (Range NodeName)) → EndsIn ts r →
    EndsIn ts (option_map (map_ends f) r)
ends-moved ts f m None h = tt
ends-moved ts f m (Some r) h =
    let a = m r.start h.start in
    let b = m r.end h.end in
    record {
      start = a.0;
      end = b.0;
      one_root = roots-same ts (f r.start).node (f r.end).node
          (a.1 ∙ roots-equal ts r.start.node r.end.node h.one_root ∙ sym b.1);
    }

-- of all ranges
pub ranges-moved : (ts : Trees) (f : Boundary NodeName → Boundary NodeName) → MovesIn ts f → (rs : List (Option (Range NodeName))) →
    AllByRecursion (EndsIn ts) rs → AllByRecursion (EndsIn ts) (map (option_map (map_ends f)) rs)
ranges-moved ts f m rs h = all-map (EndsIn ts) (option_map (map_ends f)) rs
    (all-then (EndsIn ts) (λ r. EndsIn ts (option_map (map_ends f) r)) (ends-moved ts f m) rs h)

-- The tables of a part, with others in one of them.
module _ {p : Part} (h : HasTables p) where
  -- ranges, iterators and walkers
  tables-standing : {rs : List (Option (Range NodeName))} {is : List Iterator} {ws : List Walker} → AllByRecursion (EndsIn p.trees) rs →
      AllByRecursion (IsIteratorIn p.trees) is → AllByRecursion (IsWalkerIn p.trees) ws → HasTables (record p { ranges = rs; iterators = is; walkers = ws })
  tables-standing r i w = record {
    hosts = h.hosts;
    ranges = r;
    iterators = i;
    walkers = w;
    registrations = h.registrations;
    pending = h.pending;
    listeners = h.listeners;
  }

  -- what is told: registrations, who is pending, and listeners
  pub tables-telling : {queues : List (List (Change NodeName))} {rs : List (Registration NodeName)} {ks : List ℕ} {ls : List (Listener NodeName)} →
      AllByRecursion (IsRegistrationIn p.trees (length queues)) rs → AllByRecursion (λ k. k < length queues) ks → AllByRecursion (IsListenerIn p.trees) ls →
      HasTables (record p { record_queues = queues; registrations = rs; pending = ks; listeners = ls })
  tables-telling r k l = record {
    hosts = h.hosts;
    ranges = h.ranges;
    iterators = h.iterators;
    walkers = h.walkers;
    registrations = r;
    pending = k;
    listeners = l;
  }

  -- ranges
  pub tables-ranges : {xs : List (Option (Range NodeName))} → AllByRecursion (EndsIn p.trees) xs → HasTables (record p { ranges = xs })
  tables-ranges g = tables-standing g h.iterators h.walkers

  -- iterators
  pub tables-iterators : {xs : List Iterator} → AllByRecursion (IsIteratorIn p.trees) xs → HasTables (record p { iterators = xs })
  tables-iterators g = tables-standing h.ranges g h.walkers

  -- walkers
  pub tables-walkers : {xs : List Walker} → AllByRecursion (IsWalkerIn p.trees) xs → HasTables (record p { walkers = xs })
  tables-walkers g = tables-standing h.ranges h.iterators g

-- a part with its boundaries moved
pub tables-ends : (p : Part) (f : Boundary NodeName → Boundary NodeName) → MovesIn p.trees f → HasTables p → HasTables (with_ends f p)
tables-ends p f m h =
    tables-ranges h (ranges-moved p.trees f m p.ranges h.ranges)

-- How steps move boundaries.
pub moves-insert : (ts : Trees) (parent : NodeName) (index count : ℕ) → MovesIn ts (after_insert name_eq parent index count)
moves-insert ts parent index count b h = from (name_eq b.node parent) refl
  where
    from : (t : Bool) → name_eq b.node parent ≡ t → IsUnder ts b.node (if t && nat_lt index b.offset then at parent (b.offset + count) else b)
    from true e = either_way (IsUnder ts b.node) (nat_lt index b.offset) (at parent (b.offset + count)) b
        (subst (λ x. IsUnder ts b.node (at x 0)) (name_eq-true b.node parent e) (h, refl)) (h, refl)
    from false e = (h, refl)

-- at a removal: to where nothing leaves
pub moves-removal : {parent : NodeName} (ts : Trees) (x : NodeName) → Once ts → parent_of ts x ≡ Some parent → (b : Boundary NodeName) →
    IsNodeIn ts b.node → let c = after_removal name_eq (is_inclusive_ancestor ts x) parent (index_of ts x) b in IsUnder ts b.node c × (inside ts x c.node ≡ 0)
moves-removal {parent} ts x u e b h =
    which_way P (is_inclusive_ancestor ts x b.node) (at parent (index_of ts x))
    (if name_eq b.node parent && nat_lt (index_of ts x) b.offset then at parent (b.offset - 1) else b)
    (λ t. ((times-has_node ts parent (parent-there ts x parent e), root-parent_of ts u x parent e ∙ root-one ts u x b.node t), parent-apart ts x parent u e))
    (λ t. which_way P (name_eq b.node parent && nat_lt (index_of ts x) b.offset) (at parent (b.offset - 1)) b
    (λ k. subst (λ y. P (at y 0)) (name_eq-true b.node parent (and_parts (name_eq b.node parent) (nat_lt (index_of ts x) b.offset) k).0) (here t))
    (λ k. here t))
  where
    P : Boundary NodeName → Type 0
    P c = IsUnder ts b.node c × (inside ts x c.node ≡ 0)

    here : is_inclusive_ancestor ts x b.node ≡ false → IsUnder ts b.node b × (inside ts x b.node ≡ 0)
    here t = ((h, refl), inside-no_ancestor ts x b.node u t)

-- at a change of data
pub moves-data : (ts : Trees) (x : NodeName) (offset count size : ℕ) → MovesIn ts (after_replace_data name_eq x offset count size)
moves-data ts x offset count size b h = from (name_eq b.node x) refl
  where
    from : (t : Bool) → name_eq b.node x ≡ t →
        IsUnder ts b.node (if not t || nat_le b.offset offset then b else
        (if nat_le b.offset (offset + count) then at x offset else at x (b.offset + size - count)))
    from true e =
        let k : IsUnder ts b.node (at x 0) = subst (λ y. IsUnder ts b.node (at y 0)) (name_eq-true b.node x e) (h, refl) in
        either_way (IsUnder ts b.node) (nat_le b.offset offset) b
        (if nat_le b.offset (offset + count) then at x offset else at x (b.offset + size - count)) (h, refl)
        (either_way (IsUnder ts b.node) (nat_le b.offset (offset + count)) (at x offset) (at x (b.offset + size - count)) k k)
    from false e = (h, refl)

-- Below a parent, at a place among its children.
module _ (ts : Trees) (parent : NodeName) (index : ℕ) where
  -- at a split
  pub moves-split : (x : NodeName) (offset : ℕ) (new : NodeName) → IsNodeIn ts new → root_of ts new ≡ root_of ts x →
      MovesIn ts (after_split name_eq x offset new parent index)
  moves-split x offset new k e b h =
      which_way (IsUnder ts b.node) (name_eq b.node x && nat_lt offset b.offset) (at new (b.offset - offset))
      (if boundary_eq name_eq b (at parent (index + 1)) then at parent (index + 2) else b)
      (λ t. (k, e ∙ ap (root_of ts) (sym (name_eq-true b.node x (and_parts (name_eq b.node x) (nat_lt offset b.offset) t).0))))
      (λ t. from (name_eq b.node parent) refl)
    where
      from : (t : Bool) → name_eq b.node parent ≡ t → IsUnder ts b.node (if t && nat_eq b.offset (index + 1) then at parent (index + 2) else b)
      from true e = either_way (IsUnder ts b.node) (nat_eq b.offset (index + 1)) (at parent (index + 2)) b
          (subst (λ y. IsUnder ts b.node (at y 0)) (name_eq-true b.node parent e) (h, refl)) (h, refl)
      from false e = (h, refl)

  -- at a join
  pub moves-join : (first : NodeName) (size : ℕ) (next : NodeName) → IsNodeIn ts first →
      root_of ts first ≡ root_of ts next → root_of ts first ≡ root_of ts parent → MovesIn ts (after_join name_eq first size next parent index)
  moves-join first size next k e f b h =
      which_way (IsUnder ts b.node) (name_eq b.node next) (at first (b.offset + size)) (if boundary_eq name_eq b (at parent index) then at first size else b)
      (λ t. (k, e ∙ ap (root_of ts) (sym (name_eq-true b.node next t))))
      (λ t. which_way (IsUnder ts b.node) (boundary_eq name_eq b (at parent index)) (at first size) b
      (λ s. (k, f ∙ ap (root_of ts) (sym (name_eq-true b.node parent (and_parts (name_eq b.node parent) (nat_eq b.offset index) s).0)))) (λ s. (h, refl)))
