-- Steps and plans over one part keep the ends of its live ranges within their nodes: stated for who holds ranges.
use Rattle.dom_base.proofs.Std.{◌≡◌, ◌≤◌, ℕ, ◌+◌, Bool, true, false, List, [], ◌∷◌, length, Option, Some, None, refl, ap, arith, IsTrue, if◌then◌else◌}
use Rattle.dom_model.proofs.Model.{NodeName, Refusal, Hierarchy, Word, DomString, Node, kind_of, has_node, has_data, is_text, children_of}
use Rattle.dom_model.proofs.Model.{is_inclusive_ancestor, length_of, Change, Part, range_at, deleting, insertion_parent, start_reference, cannot_take_node}
use Rattle.dom_model.proofs.Model.{insert_node_refusal, inserting_into_range, Range, extracting, pre_insert_refusal, make, set_document, join_at, set_range}
use Rattle.dom_model.proofs.Model.{queue_record, part_step, after, Observing, remove_plan, adopt_plan, insert_plan, replace_plan, setting_attribute}
use Rattle.dom_model.proofs.Model.{unsetting_attribute, replacing_data, splitting, normalizing, setting_text}
use Rattle.dom_worlds.specs.Definitions.{EndsWithin, IsWithin, HasBounds, HasEnds, HasTables, IsPart}
use Rattle.dom_worlds.proofs.Bounds.{RangeUnder, reach, nowhere, HasRoom, room-make, room-document, room-record, room-join, room-set}
use Rattle.dom_worlds.proofs.InsideAncestors.{inside-no_ancestor, times-has_node}
use Rattle.dom_worlds.proofs.KindLines.{has_node-times}
use Rattle.dom_worlds.proofs.ChildCounts.{length-children}
use Rattle.dom_worlds.proofs.Lists.{all-then}
use Rattle.dom_worlds.proofs.PartSteps.{part-step}
use Rattle.dom_worlds.proofs.RangeBounds.{room-removing, room-adopting, room-inserting, room-replacing, room-setting_attribute, room-unsetting_attribute}
use Rattle.dom_worlds.proofs.RangeBounds.{room-replacing_data}
use Rattle.dom_worlds.proofs.PlanContents.{range-ends, leads-deleting, leads-extracting, leads-inserting_into_range}
use Rattle.dom_worlds.proofs.PlanPlaces.{MayGo, leads-removing, leads-adopting, leads-inserting}
use Rattle.dom_worlds.proofs.PlanTexts.{leads-replacing, leads-setting_attribute, leads-unsetting_attribute, leads-replacing_data, leads-splitting}
use Rattle.dom_worlds.proofs.PlanTexts.{leads-normalizing, leads-setting_text}
use Rattle.dom_worlds.proofs.RangeInsertions.{room-inserting_into_range}
use Rattle.dom_worlds.proofs.RangePlans.{IsProper, room-deleting}
use Rattle.dom_worlds.proofs.ExtractionPlans.{room-extracting}
use Rattle.dom_worlds.proofs.ShadowRoots.{not_taken}
use Rattle.dom_worlds.proofs.TableRegisters.{parent-of_range}
use Rattle.dom_worlds.proofs.TextBounds.{text-data, room-splitting, room-normalizing, room-setting_text}
use Rattle.dom_worlds.proofs.Placings.{insertion-tested}

-- Both forms of the bounds.
pub room-of : (p : Part) → IsPart p → HasBounds p → HasRoom nowhere p
room-of p i h =
    record {
      bounds = all-then (EndsWithin p.trees) (RangeUnder (reach nowhere p)) under p.ranges h.ranges;
      leaves = λ y d. let e = ap (λ (xs : List NodeName). length xs) (h.leaves y d) in let k = length-children p.trees y i.unique in omega arith;
    }
  where
    under : (r : Option (Range NodeName)) → EndsWithin p.trees r → RangeUnder (reach nowhere p) r
    under None g = tt
    under (Some r) g = let a = g.0 in let b = g.1 in (omega arith, omega arith)

-- no items
none-left : (xs : List NodeName) → length xs ≡ 0 → xs ≡ []
none-left [] e = refl
none-left (x ∷ xs) e = absurd (omega arith)

-- and back
pub bounds-of : (p : Part) → IsPart p → HasRoom nowhere p → HasBounds p
bounds-of p i h =
    record {
      ranges = all-then (RangeUnder (reach nowhere p)) (EndsWithin p.trees) within p.ranges h.bounds;
      leaves = λ y d. none-left (children_of p.trees y) (let z = h.leaves y d in let k = length-children p.trees y i.unique in omega arith);
    }
  where
    within : (r : Option (Range NodeName)) → RangeUnder (reach nowhere p) r → EndsWithin p.trees r
    within None g = tt
    within (Some r) g = let a = g.0 in let b = g.1 in (omega arith, omega arith)

-- What goes below a node: it is there, and no inclusive ancestor of that.
may-go : {p : Part} (x parent : NodeName) → IsPart p → IsTrue (has_node p.trees x) → IsTrue (has_node p.trees parent) →
    is_inclusive_ancestor p.trees x parent ≡ false → MayGo parent p x
may-go {p} x parent i s t a =
    let there = has_node-times p.trees x s in
    record { there = there; owner = i.owned x there; below = has_node-times p.trees parent t; apart = inside-no_ancestor p.trees x parent i.unique a }

-- A join that a part with bounds allows: its first Text has room for the data of both.
pub record CanJoin (p : Part) (first : NodeName) (size : ℕ) (next : NodeName) : Type 0 where
  pub part : IsPart p
  pub fits : size + length_of p.trees next ≤ length_of p.trees first
  pub bounds : HasBounds p

-- Steps of a part.
module _ (p : Part) where
  -- a new node is made
  pub make-keeps : (n : Node) → IsPart p → HasBounds p → HasBounds (part_step p (make n))
  make-keeps n i h = bounds-of (part_step p (make n)) (part-step p (make n) i) (room-make nowhere p n i (room-of p i h))

  -- a node document
  pub set_document-keeps : (x d : NodeName) → IsPart p → HasBounds p → HasBounds (part_step p (set_document x d))
  set_document-keeps x d i h = bounds-of (part_step p (set_document x d)) (part-step p (set_document x d) i) (room-document nowhere p x d i (room-of p i h))

  -- a join, where the first Text has the data of both
  pub join_at-keeps : (first : NodeName) (size : ℕ) (next parent : NodeName) (index : ℕ) → CanJoin p first size next →
      HasBounds (part_step p (join_at first size next parent index))
  join_at-keeps first size next parent index c =
      bounds-of (part_step p (join_at first size next parent index)) (part-step p (join_at first size next parent index) c.part)
      (room-join (room-of p c.part c.bounds) parent index first size next c.fits)

  -- a range that gets ends within their nodes
  pub set_range-keeps : (k : ℕ) (r : Range NodeName) → IsPart p → IsWithin p.trees r.start → IsWithin p.trees r.end → HasBounds p →
      HasBounds (part_step p (set_range k r))
  set_range-keeps k r i a b h =
      bounds-of (part_step p (set_range k r)) (part-step p (set_range k r) i) (room-set k r (omega arith) (omega arith) (room-of p i h))

  -- a record
  pub queue_record-keeps : (c : Change NodeName) → IsPart p → HasBounds p → HasBounds (part_step p (queue_record c))
  queue_record-keeps c i h = bounds-of (part_step p (queue_record c)) (part-step p (queue_record c) i) (room-record nowhere p c (room-of p i h))

-- Plans. A removal.
pub removal-keeps : (how : Observing) (x : NodeName) (p : Part) → IsPart p → HasBounds p → HasBounds (after p (remove_plan how x p))
removal-keeps how x p i h = bounds-of (after p (remove_plan how x p)) (leads-removing how x p i).changed.part (room-removing nowhere how x p i (room-of p i h))

-- an adoption
pub adoption-keeps : (d x : NodeName) (p : Part) → IsPart p → IsTrue (has_node p.trees x) → HasBounds p → HasBounds (after p (adopt_plan d x p))
adoption-keeps d x p i t h =
    bounds-of (after p (adopt_plan d x p)) (leads-adopting d x p i (i.owned x (has_node-times p.trees x t))).changed.part
    (room-adopting nowhere d x p i (room-of p i h))

-- A node of a part with bounds, and one that may become its parent: that is not below it, and has no data.
pub record CanGoBelow (x parent : NodeName) (p : Part) : Type 0 where
  pub part : IsPart p
  pub there : IsTrue (has_node p.trees x)
  pub parent_there : IsTrue (has_node p.trees parent)
  pub apart : is_inclusive_ancestor p.trees x parent ≡ false
  pub opened : has_data (kind_of p.trees parent) ≡ false
  pub bounds : HasBounds p

-- an insertion
pub insertion-keeps : (how : Observing) (x parent : NodeName) (before : Option NodeName) (p : Part) → CanGoBelow x parent p →
    HasBounds (after p (insert_plan how x parent before p))
insertion-keeps how x parent before p c =
    let m = may-go x parent c.part c.there c.parent_there c.apart in
    bounds-of (after p (insert_plan how x parent before p)) (leads-inserting how x parent before c.part m).changed.part
    (room-inserting how before (record { part = c.part; room = room-of p c.part c.bounds }) (record { go = m; open_parent = c.opened }))

-- a replacement
pub replacement-keeps : (parent x child : NodeName) (p : Part) → CanGoBelow x parent p → HasBounds (after p (replace_plan parent x child p))
replacement-keeps parent x child p c =
    let m = may-go x parent c.part c.there c.parent_there c.apart in
    bounds-of (after p (replace_plan parent x child p)) (leads-replacing parent x child p c.part m).changed.part
    (room-replacing child (record { part = c.part; room = room-of p c.part c.bounds }) (record { go = m; open_parent = c.opened }))

-- an attribute that is set
pub attribute-keeps : (x : NodeName) (a : Word) (v : DomString) (p : Part) → IsPart p → HasBounds p → HasBounds (after p (setting_attribute x a v p))
attribute-keeps x a v p i h = bounds-of (after p (setting_attribute x a v p)) (leads-setting_attribute x a v p i).changed.part
    (room-setting_attribute x a v p i (room-of p i h))

-- one that goes
pub attribute_removal-keeps : (x : NodeName) (a : Word) (p : Part) → IsPart p → HasBounds p → HasBounds (after p (unsetting_attribute x a p))
attribute_removal-keeps x a p i h = bounds-of (after p (unsetting_attribute x a p)) (leads-unsetting_attribute x a p i).changed.part
    (room-unsetting_attribute x a p i (room-of p i h))

-- A Text or a Comment, at an offset.
module _ (x : NodeName) (offset : ℕ) where
  -- its data there
  pub data-keeps : (count : ℕ) (new : DomString) (p : Part) → IsPart p → has_data (kind_of p.trees x) ≡ true → HasBounds p →
      HasBounds (after p (replacing_data x offset count new p))
  data-keeps count new p i k h =
      bounds-of (after p (replacing_data x offset count new p)) (leads-replacing_data x offset count new p i).changed.part
      (room-replacing_data x offset count new (record { part = i; room = room-of p i h }) k)

  -- its split there
  pub split-keeps : (p : Part) → IsPart p → IsTrue (has_node p.trees x) → is_text (kind_of p.trees x) ≡ true →
      HasBounds p → HasBounds (after p (splitting x offset p))
  split-keeps p i t k h =
      bounds-of (after p (splitting x offset p)) (leads-splitting x offset p i).changed.part
      (room-splitting x offset (record { part = i; room = room-of p i h }) (has_node-times p.trees x t) (text-data (kind_of p.trees x) k))

-- normalize()
pub normalization-keeps : (x : NodeName) (p : Part) → IsPart p → HasBounds p → HasBounds (after p (normalizing x p))
normalization-keeps x p i h = bounds-of (after p (normalizing x p)) (leads-normalizing x p i).changed.part (room-normalizing x p i (room-of p i h))

-- text content
pub text_content-keeps : (x : NodeName) (new : DomString) (p : Part) → IsPart p → IsTrue (has_node p.trees x) → HasBounds p →
    HasBounds (after p (setting_text x new p))
text_content-keeps x new p i t h =
    let there = has_node-times p.trees x t in
    bounds-of (after p (setting_text x new p)) (leads-setting_text x new p i there).changed.part (room-setting_text x new p i there (room-of p i h))

-- Ranges' contents. What is asked of a range: its ends are nodes of one tree, and its start is within its node.
proper-of : (p : Part) (r : Range NodeName) → HasEnds p.trees r → IsWithin p.trees r.start → IsProper p r
proper-of p r e w = record {
  start = has_node-times p.trees r.start.node e.start;
  end = has_node-times p.trees r.end.node e.end;
  one_tree = e.one_root;
  within = w;
}

-- A range of a part with bounds: its ends are nodes, and its start is within its node.
module _ (k : ℕ) (r : Range NodeName) (p : Part) (i : IsPart p) (e : HasEnds p.trees r) (w : IsWithin p.trees r.start) (h : HasBounds p) where
  -- a deletion
  pub deletion-keeps : HasBounds (after p (deleting k r p))
  deletion-keeps =
      let g = proper-of p r e w in
      bounds-of (after p (deleting k r p)) (leads-deleting k r p i g.start).changed.part (room-deleting k r p i g (room-of p i h))

  -- an extraction
  pub extraction-keeps : HasBounds (after p (extracting k r p))
  extraction-keeps =
      let g = proper-of p r e w in
      bounds-of (after p (extracting k r p)) (leads-extracting k r p i g.start).changed.part (room-extracting k r p i g (room-of p i h))

-- a test that refuses does not hold of what is accepted
pub takes : (b : Bool) (r : Option Refusal) → (if b then Some Hierarchy else r) ≡ None → b ≡ false
takes true r h = cc
takes false r h = refl

-- A live range of a part with bounds, and a node that it can take.
pub record CanTakeNode (k : ℕ) (r : Range NodeName) (x : NodeName) (p : Part) : Type 0 where
  pub part : IsPart p
  pub tables : HasTables p
  pub at_k : range_at p k ≡ Some r
  pub there : IsTrue (has_node p.trees x)
  pub valid : insert_node_refusal p.trees r x ≡ None
  pub bounds : HasBounds p

-- its insertion
pub range_insertion-keeps : (k : ℕ) (r : Range NodeName) (x : NodeName) (p : Part) → CanTakeNode k r x p → HasBounds (after p (inserting_into_range k r x p))
range_insertion-keeps k r x p c =
    let i = c.part in
    let parent = insertion_parent p.trees r in
    let refused = pre_insert_refusal p.trees parent x (start_reference p.trees r) in
    let fits = not_taken (cannot_take_node p.trees r x) refused c.valid in
    let tested = insertion-tested p.trees parent x (start_reference p.trees r) fits in
    let start = (range-ends p k c.tables r c.at_k).0 in
    let m = may-go x parent i c.there (times-has_node p.trees parent (parent-of_range p r start))
    tested.apart in
    bounds-of (after p (inserting_into_range k r x p)) (leads-inserting_into_range k x i c.tables c.at_k m).changed.part
    (room-inserting_into_range k r (record { part = i; room = room-of p i c.bounds }) start
    (record { go = m; open_parent = tested.opened })
    (takes (cannot_take_node p.trees r x) refused c.valid))
