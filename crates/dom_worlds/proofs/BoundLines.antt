-- Commands and lines keep the ends of ranges within their nodes.
use Rattle.dom_base.proofs.Std.{◌≡◌, ℕ, ◌+◌, Bool, true, false, not, ◌&&◌, [], ◌∷◌, Option, Some, None, option_map, refl, sym, arith, subst, ⊤}
use Rattle.dom_base.proofs.Std.{AllByRecursion, option_map_or, and_parts, ltb-false}
use Rattle.dom_model.proofs.Model.{NodeName, IndexSize, observed, Command, part_refusal, effect, named, past_end, Effect, tables, changes, answers}
use Rattle.dom_model.proofs.Model.{sets_walker, with_range, collapsed_to, both_at, Value, nothing, Part, first_node, range_at, Boundary, same_root}
use Rattle.dom_model.proofs.Model.{is_before, Range, at, from_to, with_start, with_end, after, Walker, Trees, Node, kind_of, has_data, is_text}
use Rattle.dom_model.proofs.Model.{length_of, first_refusal}
use Rattle.dom_worlds.specs.Definitions.{IsPart}
use Rattle.dom_worlds.proofs.Effects.{next-test, part-accepted, some-effect}
use Rattle.dom_worlds.proofs.Bounds.{Under, RangeUnder, reach, nowhere, HasRoom, room-make}
use Rattle.dom_worlds.proofs.Lists.{all-append, all-set, either_way, at-each}
use Rattle.dom_worlds.proofs.RangeBounds.{room-removing, room-adopting, room-inserting, room-replacing, room-setting_attribute, room-unsetting_attribute}
use Rattle.dom_worlds.proofs.RangeBounds.{room-replacing_data}
use Rattle.dom_worlds.proofs.TableCommands.{append-may, exists-first, insert-may, replace-may}
use Rattle.dom_worlds.proofs.TextBounds.{text-data, room-splitting, room-normalizing, room-setting_text}
use Rattle.dom_worlds.proofs.Placings.{insertion-tested, replacement-tested}

-- what an effect leaves
abbrev pub Roomy : Part → Effect → Type 0
Roomy p (tables q lines v) = HasRoom nowhere q
Roomy p (changes steps v) = HasRoom nowhere (after p steps)

-- the first node that a command names fits
fits-first : (b rest : Bool) → (b && rest) ≡ true → b ≡ true
fits-first b rest h = (and_parts b rest h).0

-- Ranges that are written.
room-range : (p : Part) (k : ℕ) (r : Option (Range NodeName)) → HasRoom nowhere p → RangeUnder (reach nowhere p) r → HasRoom nowhere (with_range p k r)
room-range p k r h u = record { bounds = all-set (RangeUnder (reach nowhere p)) p.ranges k r h.bounds u; leaves = h.leaves }

-- a range that is looked up
pub under-at : (p : Part) (k : ℕ) → HasRoom nowhere p → RangeUnder (reach nowhere p) (range_at p k)
under-at p k h = at-each (RangeUnder (reach nowhere p)) tt p.ranges k h.bounds

-- with other ends
under-mapped : (c : NodeName → ℕ) (f : Range NodeName → Range NodeName) →
    ((r : Range NodeName) → Under c r.start → Under c r.end → Under c (f r).start × Under c (f r).end) → (o : Option (Range NodeName)) →
    RangeUnder c o → RangeUnder c (option_map f o)
under-mapped c f g None h = tt
under-mapped c f g (Some r) h = g r h.0 h.1

-- A range within bounds, and a boundary within them.
module _ (c : NodeName → ℕ) (ts : Trees) (b : Boundary NodeName) (u : Under c b) (r : Range NodeName) (s : Under c r.start) (e : Under c r.end) where
  -- another start
  under-start : Under c (with_start ts b r).start × Under c (with_start ts b r).end
  under-start = either_way (λ (q : Range NodeName). Under c q.start × Under c q.end)
      (same_root ts b.node r.end.node && not (is_before ts r.end b)) (from_to b r.end) (from_to b b) (u, e) (u, u)

  -- another end
  under-end : Under c (with_end ts b r).start × Under c (with_end ts b r).end
  under-end = either_way (λ (q : Range NodeName). Under c q.start × Under c q.end)
      (same_root ts b.node r.start.node && not (is_before ts b r.start)) (from_to r.start b) (from_to b b) (s, u) (u, u)

-- both at one of them
under-collapsed : (c : NodeName → ℕ) (to_start : Bool) (r : Range NodeName) → Under c r.start → Under c r.end →
    Under c (collapsed_to to_start r).start × Under c (collapsed_to to_start r).end
under-collapsed c true r s e = (s, s)
under-collapsed c false r s e = (e, e)

-- an accepted offset
accepted-offset : (p : Part) (x : NodeName) (i : ℕ) → first_refusal ((past_end p x i, IndexSize) ∷ []) ≡ None → Under (reach nowhere p) (at x i)
accepted-offset p x i h = let low = ltb-false (length_of p.trees x) i (next-test (past_end p x i) IndexSize [] h).0 in omega arith

-- what changes no range and no tree
pub room-same : (p q : Part) → q.trees ≡ p.trees → q.ranges ≡ p.ranges → HasRoom nowhere p → HasRoom nowhere q
room-same p q t r h =
    record {
      bounds = subst (AllByRecursion (RangeUnder (reach nowhere q))) (sym r)
          (subst (λ ts. AllByRecursion (RangeUnder (λ y. length_of ts y + 0)) p.ranges) (sym t) h.bounds);
      leaves = subst (λ ts. (y : NodeName) → has_data (kind_of ts y) ≡ true → Rattle.dom_worlds.proofs.ChildCounts.kids ts y ≡ 0) (sym t) h.leaves;
    }

-- a walker that is set
room-walker : (p : Part) (k : ℕ) (w : Walker) (o : Option NodeName) (v : Value) → HasRoom nowhere p → Roomy p (sets_walker p k w o v)
room-walker p k w None v h = h
room-walker p k w (Some x) v h = room-same p _ refl refl h

-- What is shown elsewhere of the commands that take or fill the contents of a range.
abbrev pub ForRanges : Part → Command → Type 0
ForRanges p (Command.extract k) = HasRoom nowhere p → Roomy p (effect p (Command.extract k))
ForRanges p (Command.delete k) = HasRoom nowhere p → Roomy p (effect p (Command.delete k))
ForRanges p (Command.insert_node k x) = HasRoom nowhere p → Roomy p (effect p (Command.insert_node k x))
ForRanges p c = ⊤

-- of a thing that may not be there
some-room : {X : Type 0} (p : Part) (o : Option X) (f : X → Effect) → ((x : X) → Roomy p (f x)) → HasRoom nowhere p → Roomy p
    (option_map_or f o (answers p nothing))
some-room p o f h g = some-effect (Roomy p) o f h g

-- Every accepted command.
pub room-effect : (p : Part) → IsPart p → HasRoom nowhere p → (c : Command) → part_refusal p c ≡ None → ForRanges p c → Roomy p (effect p c)
room-effect p i h (Command.append a x) r s =
    let k = part-accepted p (Command.append a x) r in
    room-inserting observed None (record { part = i; room = h })
    (record {
      go = append-may i a x k;
      open_parent = (insertion-tested p.trees (named p a) (named p x) None k.own).opened;
    })
room-effect p i h (Command.insert a x c) r s =
    let k = part-accepted p (Command.insert a x c) r in
    room-inserting observed _ (record { part = i; room = h })
    (record {
      go = insert-may i a x c k;
      open_parent = (insertion-tested p.trees (named p a) (named p x) (Some (named p c)) k.own).opened;
    })
room-effect p i h (Command.replace a x c) r s =
    let k = part-accepted p (Command.replace a x c) r in
    room-replacing (named p c) (record { part = i; room = h })
    (record {
      go = replace-may i a x c k;
      open_parent = (replacement-tested p.trees (named p a) (named p x) (named p c) k.own).opened;
    })
room-effect p i h (Command.set_data x t) r s =
    let k = part-accepted p (Command.set_data x t) r in
    room-replacing_data (named p x) 0 (length_of p.trees (named p x)) t (record { part = i; room = h })
    (fits-first (has_data (kind_of p.trees (named p x))) true k.fit)
room-effect p i h (Command.replace_data x j n t) r s =
    let k = part-accepted p (Command.replace_data x j n t) r in
    room-replacing_data (named p x) j n t (record { part = i; room = h }) (fits-first (has_data (kind_of p.trees (named p x))) true k.fit)
room-effect p i h (Command.split x j) r s =
    let k = part-accepted p (Command.split x j) r in
    room-splitting (named p x) j (record { part = i; room = h }) (exists-first p x true true k.exist)
    (text-data (kind_of p.trees (named p x)) (fits-first (is_text (kind_of p.trees (named p x))) true k.fit))
room-effect p i h (Command.set_text x t) r s =
    let k = part-accepted p (Command.set_text x t) r in
    room-setting_text (named p x) t p i (exists-first p x true true k.exist) h
room-effect p i h Command.range_new r s =
    record {
      bounds = all-append (RangeUnder (reach nowhere p)) p.ranges (Some (both_at (at (first_node p) 0)) ∷ []) h.bounds
          ((omega arith, omega arith), tt);
      leaves = h.leaves;
    }
room-effect p i h (Command.range_start k x j) r s =
    let a = part-accepted p (Command.range_start k x j) r in
    let b = at (named p x) j in
    room-range p k _ h (under-mapped (reach nowhere p) (with_start p.trees b)
    (under-start (reach nowhere p) p.trees b (accepted-offset p (named p x) j a.own)) (range_at p k) (under-at p k h))
room-effect p i h (Command.range_end k x j) r s =
    let a = part-accepted p (Command.range_end k x j) r in
    let b = at (named p x) j in
    room-range p k _ h (under-mapped (reach nowhere p) (with_end p.trees b)
    (under-end (reach nowhere p) p.trees b (accepted-offset p (named p x) j a.own)) (range_at p k) (under-at p k h))
room-effect p i h (Command.range_collapse k t) r s =
    room-range p k _ h (under-mapped (reach nowhere p) (collapsed_to t) (under-collapsed (reach nowhere p) t) (range_at p k) (under-at p k h))
room-effect p i h c r s = search (
  some-room,
  room-same,
  room-walker,
  room-make,
  room-removing,
  room-adopting,
  room-normalizing,
  room-setting_attribute,
  room-unsetting_attribute,
  room-range,
)
