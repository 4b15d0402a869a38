-- Commands that change tables alone keep an owner's part ready: those on iterators, walkers and observers leave its trees and live ranges,
-- and those on live ranges set ends within nodes of one tree.
use Rattle.dom_mutation.proofs.Cited.{◌≡◌, ℕ, Bool, true, false, not, ◌&&◌, List, [], ◌∷◌, Option, Some, None, option_map, refl, sym, arith, subst, IsTrue}
use Rattle.dom_mutation.proofs.Cited.{AllByRecursion, ltb-false, NodeName, Owner, Command, NodeWord, effect, named, past_end}
use Rattle.dom_mutation.proofs.Cited.{Effect, tables, changes, with_range, collapsed_to, both_at, Value}
use Rattle.dom_mutation.proofs.Cited.{Said, Part, first_node, range_at, Boundary, same_root, is_before, Range, at, from_to, with_start, with_end}
use Rattle.dom_mutation.proofs.Cited.{Trees, length_of, World, part_of, owner-part_of}
use Rattle.dom_mutation.proofs.Cited.{IsWithin, EndsWithin, IsNodeIn, HasEnds, EndsIn, IsPart, all-append, all-set, either_way, ends-at, roots-same}
use Rattle.dom_mutation.proofs.Cited.{ends-with_start, ends-with_end, ends-collapsed, IsReadyPart, AreReady, MakesSaying}
use Rattle.dom_worlds.proofs.RangeLemmas.{under-at, RangeUnder, reach, nowhere, room-of}
use Rattle.dom_mutation.proofs.ReadyEnds.{bare, bare-tables}
use Rattle.dom_mutation.proofs.ReadyWorlds.{ready-written}

-- a part with the same trees and live ranges
pub ready-same : (p q : Part) → q.trees ≡ p.trees → q.ranges ≡ p.ranges → IsReadyPart p → IsReadyPart q
ready-same p q t r h =
    let ends = λ (P : Trees → Option (Range NodeName) → Type 0) (all : AllByRecursion (P p.trees) p.ranges).
    subst (AllByRecursion (P q.trees)) (sym r) (subst (λ ts. AllByRecursion (P ts) p.ranges) (sym t) all) in
    record {
      bounds = record {
        ranges = ends EndsWithin h.bounds.ranges;
        leaves = subst (λ ts. (x : NodeName) → IsTrue (Rattle.dom_model.specs.Tree.has_data (Rattle.dom_model.specs.Tree.kind_of ts x)) →
            Rattle.dom_model.specs.Tree.children_of ts x ≡ []) (sym t) h.bounds.leaves;
      };
      ends = ends EndsIn h.ends;
      roots = subst (λ ts. (x : NodeName) → Rattle.dom_model.specs.Tree.is_shadow (Rattle.dom_model.specs.Tree.kind_of ts x) ≡ true →
          Rattle.dom_model.specs.Tree.parent_of ts x ≡ None) (sym t) h.roots;
    }

-- what tables an effect leaves
abbrev pub ReadyEffect : Effect → Type 0
ReadyEffect (tables q lines v) = IsReadyPart q
ReadyEffect (changes steps v) = Unit {0}

-- The world after a command that changes tables alone.
pub ready-makes : (o : Owner) (c : Command) {lines : List Said} {v : Value} (was : World) {now : World} → MakesSaying o c lines v was now → AreReady was →
    ReadyEffect (effect (part_of was o) c) → AreReady now
ready-makes o c was {now} m h e =
    subst AreReady (sym m.1) (ready-written was o (part_of now o) (owner-part_of now o) (subst ReadyEffect m.0 e) h)

module _ (p : Part) (h : IsReadyPart p) where
  -- Live ranges that are written.
  range-ready : (k : ℕ) (r : Option (Range NodeName)) → EndsIn p.trees r → EndsWithin p.trees r → IsReadyPart (with_range p k r)
  range-ready k r e w =
      record {
        bounds = record { ranges = all-set (EndsWithin p.trees) p.ranges k r h.bounds.ranges w; leaves = h.bounds.leaves };
        ends = all-set (EndsIn p.trees) p.ranges k r h.ends e;
        roots = h.roots;
      }

  -- with other ends
  mapped-ready : (k : ℕ) (f : Range NodeName → Range NodeName) → IsPart p → ((r : Range NodeName) → HasEnds p.trees r → HasEnds p.trees (f r)) →
      ((r : Range NodeName) → EndsWithin p.trees (Some r) → EndsWithin p.trees (Some (f r))) →
      IsReadyPart (with_range p k (option_map f (range_at p k)))
  mapped-ready k f i ends within = let both = by (range_at p k) (ends-at (bare p) k (bare-tables p h.ends)) (under-at p k (room-of p i h.bounds)) in
      range-ready k (option_map f (range_at p k)) both.0 both.1
    where
      by : (o : Option (Range NodeName)) → EndsIn p.trees o → RangeUnder (reach nowhere p) o → EndsIn p.trees (option_map f o) ×
          EndsWithin p.trees (option_map f o)
      by None e u = (tt, tt)
      by (Some r) e u = (ends r e, within r (let a = u.0 in omega arith, let b = u.1 in omega arith))

  -- a new range, at the owner's first node
  pub range_new-ready : IsNodeIn p.trees (first_node p) → ReadyEffect (effect p Command.range_new)
  range_new-ready f =
      let new = both_at (at (first_node p) 0) in
      let ends : HasEnds p.trees new = record { start = f; end = f; one_root = roots-same p.trees (first_node p) (first_node p) refl } in
      record {
        bounds = record {
          ranges = all-append (EndsWithin p.trees) p.ranges (Some new ∷ []) h.bounds.ranges ((omega arith, omega arith), tt);
          leaves = h.bounds.leaves;
        };
        ends = all-append (EndsIn p.trees) p.ranges (Some new ∷ []) h.ends (ends, tt);
        roots = h.roots;
      }

  -- another start, and another end
  module _ (k : ℕ) (x : NodeWord) (j : ℕ) (i : IsPart p) (t : IsNodeIn p.trees (named p x)) (low : past_end p (named p x) j ≡ false) where
    abbrev b : Boundary NodeName
    b = at (named p x) j

    point : IsWithin p.trees b
    point = ltb-false (length_of p.trees (named p x)) j low

    pub range_start-ready : ReadyEffect (effect p (Command.range_start k x j))
    range_start-ready =
        mapped-ready k (with_start p.trees b) i (ends-with_start p.trees b t)
        (λ r w. either_way (λ (q : Range NodeName). EndsWithin p.trees (Some q))
        (same_root p.trees b.node r.end.node && not (is_before p.trees r.end b)) (from_to b r.end) (from_to b b) (point, w.1) (point, point))

    pub range_end-ready : ReadyEffect (effect p (Command.range_end k x j))
    range_end-ready =
        mapped-ready k (with_end p.trees b) i (ends-with_end p.trees b t)
        (λ r w. either_way (λ (q : Range NodeName). EndsWithin p.trees (Some q))
        (same_root p.trees b.node r.start.node && not (is_before p.trees b r.start)) (from_to r.start b) (from_to b b) (w.0, point) (point, point))

  -- both ends at one of them
  pub range_collapse-ready : (k : ℕ) (to_start : Bool) → IsPart p → ReadyEffect (effect p (Command.range_collapse k to_start))
  range_collapse-ready k to_start i = mapped-ready k (collapsed_to to_start) i (ends-collapsed p.trees to_start) (by to_start)
    where
      by : (b : Bool) (r : Range NodeName) → EndsWithin p.trees (Some r) → EndsWithin p.trees (Some (collapsed_to b r))
      by true r w = (w.0, w.0)
      by false r w = (w.1, w.1)

  -- a range that is dropped
  pub range_drop-ready : (k : ℕ) → ReadyEffect (effect p (Command.range_drop k))
  range_drop-ready k = range-ready k None tt tt
