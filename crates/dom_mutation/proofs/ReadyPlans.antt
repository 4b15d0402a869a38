-- The plans of changes keep an owner's part ready for calls.
use Rattle.dom_mutation.proofs.Cited.{◌≡◌, ◌<◌, ℕ, length, Bool, true, false, ◌||◌, List, [], ◌∷◌, Option, Some, None, refl, sym, ap, ◌∙◌, arith, true≢false}
use Rattle.dom_mutation.proofs.Cited.{subst, IsTrue, if◌then◌else◌, option_map_or, NodeName, Plan, observed, remove_plan, adopt_plan, insert_plan, replace_plan}
use Rattle.dom_mutation.proofs.Cited.{setting_attribute, unsetting_attribute, of_range, plan_of_range, extracting, Word, DomString, Part, range_at, deleting}
use Rattle.dom_mutation.proofs.Cited.{insert_node_refusal, insertion_parent, start_reference, cannot_take_node, inserting_into_range, Range, Step, make}
use Rattle.dom_mutation.proofs.Cited.{set_document, set_range, after, replacing_data, replacing_all_data, replacing_children, splitting, normalizing}
use Rattle.dom_mutation.proofs.Cited.{setting_text, Node, has_node, kind_of, has_data, is_document, is_text, is_shadow, is_inclusive_ancestor}
use Rattle.dom_mutation.proofs.Cited.{pre_insert_refusal, replace_refusal, HasBounds, IsWithin, EndsIn, HasEnds, IsPart, has_node-times, parent-of_range}
use Rattle.dom_mutation.proofs.Cited.{inside-no_ancestor, times-has_node, roots-equal, Keeps, keeps-removing, keeps-adopting, keeps-inserting, keeps-replacing}
use Rattle.dom_mutation.proofs.Cited.{keeps-setting_attribute, keeps-unsetting_attribute, keeps-replacing_data, keeps-splitting, keeps-normalizing}
use Rattle.dom_mutation.proofs.Cited.{keeps-setting_text, keeps-extracting, keeps-deleting, keeps-inserting_into_range, leads-deleting, leads-extracting}
use Rattle.dom_mutation.proofs.Cited.{leads-inserting_into_range, MayGo, leads-removing, leads-adopting, leads-inserting, ends-at, leads-replacing}
use Rattle.dom_mutation.proofs.Cited.{leads-setting_attribute, leads-unsetting_attribute, leads-replacing_data, leads-splitting, leads-normalizing}
use Rattle.dom_mutation.proofs.Cited.{leads-setting_text, MadeIn, not_taken, by_cases, IsReadyPart, insertion-tested, replacement-tested, blind-into_range}
use Rattle.dom_worlds.proofs.RangeLemmas.{under-at, RangeUnder, reach, nowhere, room-of, make-keeps, set_document-keeps, set_range-keeps, removal-keeps}
use Rattle.dom_worlds.proofs.RangeLemmas.{adoption-keeps, insertion-keeps, replacement-keeps, attribute-keeps, attribute_removal-keeps, data-keeps, split-keeps}
use Rattle.dom_worlds.proofs.RangeLemmas.{normalization-keeps, text_content-keeps, deletion-keeps, extraction-keeps, range_insertion-keeps}
use Rattle.dom_mutation.proofs.NoData.{no_data-keeps}
use Rattle.dom_mutation.proofs.ReadyEnds.{bare, bare-part, bare-bounds, bounds-bare, bare-tables, bare-step, bare-after, made-bare, ends-after}
use Rattle.dom_mutation.proofs.ReadyRoots.{LoneRoots, lone-rules, lone-before, lone-after}

-- Steps that fit, and keep the bounds and the shadow roots.
pub record KeepReady (p : Part) (steps : List Step) : Type 0 where
  pub made : MadeIn p steps
  pub bounds : HasBounds (after p steps)
  pub roots : LoneRoots (after p steps).trees

-- they keep a part ready
pub ready-after : (p : Part) (steps : List Step) → IsPart p → IsReadyPart p → KeepReady p steps → IsReadyPart (after p steps)
ready-after p steps i h k = record { bounds = k.bounds; ends = ends-after p steps i k.made h.ends; roots = k.roots }

-- In a part that is ready.
module _ (p : Part) (i : IsPart p) (h : IsReadyPart p) where
  -- shadow roots, through a plan
  lone-plan : (f : Plan) → Keeps (lone-rules p).moves f → LoneRoots (after p (f p)).trees
  lone-plan f k = lone-after p (f p) i h.roots (k p (lone-before p i h.roots))

  -- what goes below a node: it is there, and no inclusive ancestor of that
  may-go : (x parent : NodeName) → IsTrue (has_node p.trees x) → IsTrue (has_node p.trees parent) →
      is_inclusive_ancestor p.trees x parent ≡ false → MayGo parent p x
  may-go x parent t s a =
      let there = has_node-times p.trees x t in
      record { there = there; owner = i.owned x there; below = has_node-times p.trees parent s; apart = inside-no_ancestor p.trees x parent i.unique a }

  -- no step
  pub ready-nothing : KeepReady p []
  ready-nothing = record { made = tt; bounds = h.bounds; roots = h.roots }

  -- a new node that is no shadow root
  pub ready-make : (n : Node) → is_shadow n.kind ≡ false → KeepReady p (make n ∷ [])
  ready-make n m = record { made = (tt, tt); bounds = make-keeps p n i h.bounds; roots = lone-after p (make n ∷ []) i h.roots (m, tt) }

  -- a node document
  pub ready-document : (x d : NodeName) → x.owner ≡ p.owner → KeepReady p (set_document x d ∷ [])
  ready-document x d e = record {
    made = (e, tt);
    bounds = set_document-keeps p x d i h.bounds;
    roots = lone-after p (set_document x d ∷ []) i h.roots (tt, tt);
  }

  -- a range that gets ends within their nodes, which are in one tree
  pub ready-set_range : (k : ℕ) (r : Range NodeName) → HasEnds p.trees r → IsWithin p.trees r.start → IsWithin p.trees r.end → KeepReady p (set_range k r ∷ [])
  ready-set_range k r e a b =
      let start = has_node-times p.trees r.start.node e.start in
      let end = has_node-times p.trees r.end.node e.end in
      record {
        made = ((start, end, roots-equal p.trees r.start.node r.end.node e.one_root), tt);
        bounds = set_range-keeps p k r i a b h.bounds;
        roots = lone-after p (set_range k r ∷ []) i h.roots (tt, tt);
      }

  -- a plan, by what is known of it
  ready-by : (f : Plan) → MadeIn p (f p) → HasBounds (after p (f p)) → Keeps (lone-rules p).moves f → KeepReady p (f p)
  ready-by f made bounds k = record { made = made; bounds = bounds; roots = lone-plan f k }

  -- a removal and an adoption
  pub ready-removing : (x : NodeName) → KeepReady p (remove_plan observed x p)
  ready-removing x =
      ready-by (remove_plan observed x) (leads-removing observed x p i).made (removal-keeps observed x p i h.bounds)
      (keeps-removing (lone-rules p).moves observed x)

  pub ready-adopting : (d x : NodeName) → IsTrue (has_node p.trees x) → KeepReady p (adopt_plan d x p)
  ready-adopting d x t =
      ready-by (adopt_plan d x) (leads-adopting d x p i (i.owned x (has_node-times p.trees x t))).made (adoption-keeps d x p i t h.bounds)
      (keeps-adopting (lone-rules p).moves d x tt)

  module _ (x parent : NodeName) (t : IsTrue (has_node p.trees x)) (s : IsTrue (has_node p.trees parent)) where
    -- an insertion
    pub ready-inserting : (before : Option NodeName) →
        is_inclusive_ancestor p.trees x parent ≡ false → has_data (kind_of p.trees parent) ≡ false → is_shadow (kind_of p.trees x) ≡ false →
        KeepReady p (insert_plan observed x parent before p)
    ready-inserting before a o m =
        ready-by (insert_plan observed x parent before) (leads-inserting observed x parent before i (may-go x parent t s a)).made
        (insertion-keeps observed x parent before p
        (record { part = i; there = t; parent_there = s; apart = a; opened = o; bounds = h.bounds }))
        (keeps-inserting (lone-rules p).moves observed x parent before m)

    -- a replacement
    pub ready-replacing : (child : NodeName) → replace_refusal p.trees parent x child ≡ None → KeepReady p (replace_plan parent x child p)
    ready-replacing child r =
        let m = replacement-tested p.trees parent x child r in
        ready-by (replace_plan parent x child) (leads-replacing parent x child p i (may-go x parent t s m.apart)).made
        (replacement-keeps parent x child p
        (record { part = i; there = t; parent_there = s; apart = m.apart; opened = m.opened; bounds = h.bounds }))
        (keeps-replacing (lone-rules p).moves parent x child m.plain)

  -- attributes
  pub ready-attribute : (x : NodeName) (a : Word) (v : DomString) → KeepReady p (setting_attribute x a v p)
  ready-attribute x a v =
      ready-by (setting_attribute x a v) (leads-setting_attribute x a v p i).made (attribute-keeps x a v p i h.bounds)
      (keeps-setting_attribute (lone-rules p) x a v (λ old. tt) tt)

  pub ready-no_attribute : (x : NodeName) (a : Word) → KeepReady p (unsetting_attribute x a p)
  ready-no_attribute x a =
      ready-by (unsetting_attribute x a) (leads-unsetting_attribute x a p i).made (attribute_removal-keeps x a p i h.bounds)
      (keeps-unsetting_attribute (lone-rules p) x a (λ old. tt) tt)

  -- data of a Text or a Comment, or of any node where none come
  pub ready-data : (x : NodeName) (offset count : ℕ) (new : DomString) → (0 < length new → has_data (kind_of p.trees x) ≡ true) →
      KeepReady p (replacing_data x offset count new p)
  ready-data x offset count new k =
      ready-by (replacing_data x offset count new) (leads-replacing_data x offset count new p i).made
      (by_cases (has_data (kind_of p.trees x)) (λ e. data-keeps x offset count new p i e h.bounds) (without new k))
      (keeps-replacing_data (lone-rules p) x offset count new)
    where
      without : (us : DomString) → (0 < length us → has_data (kind_of p.trees x) ≡ true) → has_data (kind_of p.trees x) ≡ false →
          HasBounds (after p (replacing_data x offset count us p))
      without [] k none = no_data-keeps p i x offset count none h.bounds
      without (u ∷ us) k none = absurd (true≢false (sym (k (omega arith)) ∙ none))

  -- a split of a Text
  pub ready-splitting : (x : NodeName) (offset : ℕ) → IsTrue (has_node p.trees x) → is_text (kind_of p.trees x) ≡ true → KeepReady p (splitting x offset p)
  ready-splitting x offset t k =
      ready-by (splitting x offset) (leads-splitting x offset p i).made (split-keeps x offset p i t k h.bounds) (keeps-splitting (lone-rules p) x offset)

  -- normalize()
  pub ready-normalizing : (x : NodeName) → KeepReady p (normalizing x p)
  ready-normalizing x =
      ready-by (normalizing x) (leads-normalizing x p i).made (normalization-keeps x p i h.bounds) (keeps-normalizing (lone-rules p) x)

  -- text content, of a node with children
  pub ready-children : (x : NodeName) (new : DomString) → IsTrue (has_node p.trees x) →
      (has_data (kind_of p.trees x) || is_document (kind_of p.trees x)) ≡ false → KeepReady p (replacing_children x new p)
  ready-children x new t inner =
      by (has_data (kind_of p.trees x)) (is_document (kind_of p.trees x)) inner
      (ready-by (setting_text x new) (leads-setting_text x new p i (has_node-times p.trees x t)).made (text_content-keeps x new p i t h.bounds)
      (keeps-setting_text (lone-rules p) x new))
    where
      by : (a b : Bool) → (a || b) ≡ false → KeepReady p (if a then replacing_all_data x new p else (if b then [] else replacing_children x new p)) →
          KeepReady p (replacing_children x new p)
      by false false none k = k
      by false true none k = absurd (true≢false none)
      by true b none k = absurd (true≢false none)

  -- The contents of ranges. Both ends of a range that is there are at nodes of one tree, and its start is within its node.
  range-ends : (k : ℕ) (r : Range NodeName) → range_at p k ≡ Some r → HasEnds p.trees r
  range-ends k r e = let ends : EndsIn p.trees (Some r) = subst (EndsIn p.trees) e (ends-at (bare p) k (bare-tables p h.ends)) in ends

  range-within : (k : ℕ) (r : Range NodeName) → range_at p k ≡ Some r → IsWithin p.trees r.start
  range-within k r e = let under : RangeUnder (reach nowhere p) (Some r) =
      subst (RangeUnder (reach nowhere p)) e (under-at p k (room-of p i h.bounds)) in let a = under.0 in omega arith

  -- a plan for a range, if it is there
  ready-of_range : (k : ℕ) (f : Range NodeName → Plan) → ((r : Range NodeName) → range_at p k ≡ Some r → KeepReady p (f r p)) →
      KeepReady p (plan_of_range p k f)
  ready-of_range k f g = from (range_at p k) refl
    where
      from : (o : Option (Range NodeName)) → range_at p k ≡ o → KeepReady p (of_range p k [] (λ r. f r p))
      from None e = subst (λ o. KeepReady p (option_map_or (λ r. f r p) o [])) (sym e) ready-nothing
      from (Some r) e = subst (λ o. KeepReady p (option_map_or (λ r. f r p) o [])) (sym e) (g r e)

  -- a deletion and an extraction
  ready-contents : (k : ℕ) (f : Range NodeName → Plan) → ((r : Range NodeName) → HasEnds p.trees r → MadeIn p (f r p)) →
      ((r : Range NodeName) → HasEnds p.trees r → IsWithin p.trees r.start → HasBounds (after p (f r p))) →
      ((r : Range NodeName) → Keeps (lone-rules p).moves (f r)) → KeepReady p (plan_of_range p k f)
  ready-contents k f made bounds keeps =
      ready-of_range k f
      (λ r e. let ends = range-ends k r e in ready-by (f r) (made r ends) (bounds r ends (range-within k r e)) (keeps r))

  pub ready-deleting : (k : ℕ) → KeepReady p (plan_of_range p k (deleting k))
  ready-deleting k = ready-contents k (deleting k) (λ r e. (leads-deleting k r p i (has_node-times p.trees r.start.node e.start)).made)
      (λ r e w. deletion-keeps k r p i e w h.bounds) (keeps-deleting (lone-rules p) k)

  pub ready-extracting : (k : ℕ) → KeepReady p (plan_of_range p k (extracting k))
  ready-extracting k = ready-contents k (extracting k) (λ r e. (leads-extracting k r p i (has_node-times p.trees r.start.node e.start)).made)
      (λ r e w. extraction-keeps k r p i e w h.bounds) (keeps-extracting (lone-rules p) k)

  -- an insertion of a node that a live range can take
  pub ready-inserting_into_range : (k : ℕ) (x : NodeName) → IsTrue (has_node p.trees x) →
      ((r : Range NodeName) → range_at p k ≡ Some r → insert_node_refusal p.trees r x ≡ None) →
      KeepReady p (plan_of_range p k (λ r. inserting_into_range k r x))
  ready-inserting_into_range k x t valid =
      ready-of_range k (λ r. inserting_into_range k r x)
      (λ r e. let refused = pre_insert_refusal p.trees (insertion_parent p.trees r) x (start_reference p.trees r) in
      let m = insertion-tested p.trees (insertion_parent p.trees r) x (start_reference p.trees r)
      (not_taken (cannot_take_node p.trees r x) refused (valid r e)) in
      let start = has_node-times p.trees r.start.node (range-ends k r e).start in
      let g = may-go x (insertion_parent p.trees r) t (times-has_node p.trees (insertion_parent p.trees r) (parent-of_range p r start)) m.apart in
      let tables = bare-tables p h.ends in
      let same = blind-into_range bare bare-step k r x p in
      let steps = inserting_into_range k r x p in
      ready-by (inserting_into_range k r x)
      (made-bare p steps (subst (MadeIn (bare p)) same
      (leads-inserting_into_range k x (bare-part p i) tables e (record { there = g.there; owner = g.owner; below = g.below; apart = g.apart })).made))
      (bounds-bare (after p steps) (subst HasBounds (ap (after (bare p)) same ∙ bare-after p steps)
      (range_insertion-keeps k r x (bare p)
      (record { part = bare-part p i; tables = tables; at_k = e; there = t; valid = valid r e; bounds = bare-bounds p h.bounds }))))
      (keeps-inserting_into_range (lone-rules p) k r x m.plain))
