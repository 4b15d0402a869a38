-- After a Text was split that is a child of a parent: what is kept, and the tail.
use Rattle.dom_range_ops.proofs.Cited.{◌≡◌, ◌<◌, ℕ, Bool, true, false, [], ◌∷◌, ◌++◌, length, Some, is_some, sym, ap, subst, ◌∙◌, arith, false_from_ne_true}
use Rattle.dom_range_ops.proofs.Cited.{Kind, NodeName, Owner, Plan, ◌and_then◌, Part, next_name, range_at, Range, inserting_at, after, splitting, kind_of}
use Rattle.dom_range_ops.proofs.Cited.{has_node, parent_of, is_inclusive_ancestor, part_of, owner-part_of, IsPart, ancestor-inside, inside-no_ancestor}
use Rattle.dom_range_ops.proofs.Cited.{child-parent, has_node-times, Changed, leads-splitting, tail-child, DocState, made, planned, name_in, owner_in, trees_in}
use Rattle.dom_range_ops.proofs.Cited.{IsChild, IsAlone, made_then, inserting_before_tail, keeps-splitting, own_rules}
use Rattle.dom_range_ops.proofs.InsertedParts.{part-now, now-at, kind-kept}
use Rattle.dom_range_ops.proofs.InsertedRanges.{range-kept}
use Rattle.dom_range_ops.proofs.TakingDocs.{name-kept, new-name, new-node}

-- a child of a parent, a Text, was split, and a node is to go before its tail
pub record TailSplit : Type 0 where
  pub before : DocState
  pub after : DocState
  pub owner : Owner
  pub start : ℕ
  pub offset : ℕ
  pub parent : ℕ
  pub node : ℕ
  pub tail : ℕ
  pub alone : IsAlone before.world owner
  pub part : IsPart (part_of before.world owner)
  pub names : after.names ≡ before.names ++ next_name (part_of before.world owner) ∷ []
  pub world : after.world ≡ made owner (splitting (name_in before start) offset) before.world
  pub key : tail ≡ length before.names
  pub child : IsChild before parent start
  pub parent_is : parent < length before.names
  pub parent_own : owner_in before parent ≡ owner
  pub node_is : node < length before.names

module _ (m : TailSplit) where
  open m use {before as d, after as e, owner as o, start, offset, parent, node, tail, alone, part, names, world, key, child, parent_is, parent_own, node_is}

  abbrev p : Part
  p = part_of d.world o

  abbrev x : NodeName
  x = name_in d start

  abbrev y : NodeName
  y = name_in d parent

  abbrev f : Plan
  f = splitting x offset

  up : parent_of p.trees x ≡ Some y
  up = ap (λ w. parent_of (part_of d.world w).trees x) (sym parent_own) ∙ child.child

  changed : Changed (Some y) p (after p (f p))
  changed = subst (λ spot. Changed spot p (after p (f p))) up (leads-splitting x offset p part).changed

  now : part_of e.world o ≡ after p (f p)
  now = part-now d e o f alone (keeps-splitting (own_rules o) x offset) world

  -- names of the keys from before are kept
  pub split-name : (k : ℕ) → k < length d.names → name_in e k ≡ name_in d k
  split-name k less = name-kept d e (next_name p ∷ []) k names less

  pub split-owner : (k : ℕ) → k < length d.names → owner_in e k ≡ owner_in d k
  split-owner k less = ap (λ (z : NodeName). z.owner) (split-name k less)

  tail_name : name_in e tail ≡ next_name p
  tail_name = new-name d e (next_name p) tail names key

  -- what is told of a node's kind
  pub split-kind : (is : Kind → Bool) (k : ℕ) → k < length d.names → owner_in d k ≡ o → has_node p.trees (name_in d k) ≡ true →
      is (kind_of p.trees (name_in d k)) ≡ false → is (kind_of (trees_in e k) (name_in e k)) ≡ false
  split-kind is k less own = kind-kept d e o f alone (keeps-splitting (own_rules o) x offset) world is changed k (split-name k less, own)

  -- what was not above the parent is not
  pub split-apart : has_node p.trees (name_in d node) ≡ true → is_inclusive_ancestor p.trees (name_in d node) y ≡ false →
      is_inclusive_ancestor (trees_in e parent) (name_in e node) (name_in e parent) ≡ false
  split-apart there off =
      let z = name_in d node in
      let was = inside-no_ancestor p.trees z y part.unique off in
      let none = changed.apart z y (has_node-times p.trees z there) was was in
      let still : is_inclusive_ancestor (part_of e.world o).trees z y ≡ false =
      ap (λ (q : Part). is_inclusive_ancestor q.trees z y) now ∙
      false_from_ne_true _ (λ h. let some = ancestor-inside (after p (f p)).trees z y h in omega (arith, some, none)) in
      subst (λ v. is_inclusive_ancestor (trees_in e parent) v (name_in e parent) ≡ false) (sym (split-name node node_is))
      (now-at d e o f alone (keeps-splitting (own_rules o) x offset) world (λ ts v. is_inclusive_ancestor ts z v ≡ false) parent (split-name parent parent_is)
      parent_own still)

  -- the tail is a child of it
  pub split-child : IsChild e parent tail
  split-child =
      let below = child-parent (after p (f p)) (next_name p) y changed.part (tail-child x offset p y part up) in
      let found : parent_of (part_of e.world o).trees (next_name p) ≡ Some y = ap (λ (q : Part). parent_of q.trees (next_name p)) now ∙ below in
      record {
        node = new-node d e (next_name p) tail names key;
        owner = ap (λ (z : NodeName). z.owner) tail_name ∙ (owner-part_of d.world o ∙ (sym parent_own ∙ sym (split-owner parent parent_is)));
        child = subst (λ v. parent_of (trees_in e parent) v ≡ Some (name_in e parent)) (sym tail_name)
            (now-at d e o f alone (keeps-splitting (own_rules o) x offset) world (λ ts v. parent_of ts (next_name p) ≡ Some v) parent
            (split-name parent parent_is) parent_own found);
      }

  -- a live range that was there is there
  pub split-there : (k : ℕ) → is_some (range_at p k) ≡ true → is_some (range_at (part_of e.world o) k) ≡ true
  split-there = range-kept f alone (keeps-splitting (own_rules o) x offset) world

  -- and then the node is inserted before the tail
  pub split-whole : {g : DocState} (k : ℕ) (r : Range NodeName) → r.start.node ≡ x → r.start.offset ≡ offset →
      g ≡ planned o (inserting_at k (name_in e node) (name_in e parent) (Some (name_in e tail))) e
      → g.world ≡ made o (inserting_before_tail k r (name_in d parent) (name_in d node)) d.world
  split-whole k r at_node at_offset is =
      let put : Plan = inserting_at k (name_in d node) y (Some (next_name p)) in
      ap (λ (s : DocState). s.world) is
      ∙ ap (λ z. made o (inserting_at k z (name_in e parent) (Some (name_in e tail))) e.world) (split-name node node_is)
      ∙ ap (λ z. made o (inserting_at k (name_in d node) z (Some (name_in e tail))) e.world) (split-name parent parent_is)
      ∙ ap (λ z. made o (inserting_at k (name_in d node) y (Some z)) e.world) tail_name
      ∙ ap (made o put) world
      ∙ sym (made_then o f put d.world alone (keeps-splitting (own_rules o) x offset))
      ∙ ap (λ z. made o (splitting z offset and_then put) d.world) (sym at_node)
      ∙ ap (λ n. made o (splitting r.start.node n and_then put) d.world) (sym at_offset)
