-- The tail of a split Text is placed behind it.
use Rattle.dom_mutation.proofs.Cited.{◌≡◌, ℕ, ◌<◌, false, length, Option, Some, None, sym, ap, subst, ◌∙◌, ForSome, false_from_ne_true, parent_of}
use Rattle.dom_mutation.proofs.Cited.{inclusive_ancestors, is_inclusive_ancestor, part_of, name_eq-true, DocState, name_in, owner_in, trees_in, MayMove}
use Rattle.dom_mutation.proofs.Cited.{IsChild, Lacks, lacks_from, lacks_to, parent_path}
use Rattle.dom_mutation.proofs.Placed.{Counted, once_in}

-- A child of a parent, a new node, and what comes behind the child.
module _ (d : DocState) (counted : Counted d) (parent node new : ℕ) (next : Option ℕ) (child : IsChild d parent node) where
  -- the new Text, which stands alone, may be placed there
  pub tail_may : new < length d.names → owner_in d new ≡ owner_in d parent → parent_of (trees_in d node) (name_in d new) ≡ None →
      is_inclusive_ancestor (trees_in d node) (name_in d new) (name_in d node) ≡ false → ForSome next (IsChild d parent) → MayMove d parent next new
  tail_may there owner unlinked off children =
      let ts = trees_in d parent in
      let x = name_in d node in
      let y = name_in d new in
      let own : trees_in d node ≡ ts = ap (λ o. (part_of d.world o).trees) child.owner in
      let lacks = subst (Lacks y) (parent_path ts (once_in d counted (owner_in d parent)) x (name_in d parent) child.child)
      (lacks_from y (inclusive_ancestors ts x) (ap (λ t. is_inclusive_ancestor t y x) (sym own) ∙ off)) in
      let root : parent_of ts y ≡ None = ap (λ t. parent_of t y) (sym own) ∙ unlinked in
      record {
        node = there;
        owner = owner;
        not_above = lacks_to y (inclusive_ancestors ts (name_in d parent)) lacks.1;
        apart = λ b is. false_from_ne_true _ (λ h.
            let up : parent_of ts y ≡ Some (name_in d parent) = ap (parent_of ts) (name_eq-true y (name_in d b) h) ∙ (children b is).child in
            cc);
      }
