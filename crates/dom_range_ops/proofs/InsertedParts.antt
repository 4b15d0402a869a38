-- What an owner's plan keeps of the nodes that it does not name, in the state that it leaves.
use Rattle.dom_range_ops.proofs.Cited.{◌≡◌, ℕ, Bool, true, false, Option, sym, ap, subst, ◌∙◌, Kind, NodeName, Owner, Plan, Part, after, Trees, kind_of}
use Rattle.dom_range_ops.proofs.Cited.{has_node, World, part_of, has_node-times, Changed, DocState, made, name_in, owner_in, trees_in, PlansOwn, IsAlone}
use Rattle.dom_range_ops.proofs.Cited.{plan_alone}

module _ (d e : DocState) (o : Owner) (f : Plan) (alone : IsAlone d.world o) (own : PlansOwn o f) (world : e.world ≡ made o f d.world) where
  abbrev p : Part
  p = part_of d.world o

  -- the owner's part
  pub part-now : part_of e.world o ≡ after p (f p)
  part-now = ap (λ (w : World). part_of w o) world ∙ plan_alone o f d.world alone own

  -- a fact of a node's name in its owner's trees
  pub now-at : (P : Trees → NodeName → Type 0) (k : ℕ) → name_in e k ≡ name_in d k → owner_in d k ≡ o →
      P (part_of e.world o).trees (name_in d k) → P (trees_in e k) (name_in e k)
  now-at P k name owner h = subst (λ (z : NodeName). P (part_of e.world z.owner).trees z) (sym name)
      (subst (λ w. P (part_of e.world w).trees (name_in d k)) (sym owner) h)

  -- what is told of a node's kind
  pub kind-kept : (is : Kind → Bool) {spot : Option NodeName} → Changed spot p (after p (f p)) → (k : ℕ) →
      (name_in e k ≡ name_in d k) × (owner_in d k ≡ o) → has_node p.trees (name_in d k) ≡ true → is (kind_of p.trees (name_in d k)) ≡ false
      → is (kind_of (trees_in e k) (name_in e k)) ≡ false
  kind-kept is changed k same there plain =
      now-at (λ ts x. is (kind_of ts x) ≡ false) k same.0 same.1
      (ap (λ (q : Part). is (kind_of q.trees (name_in d k))) part-now ∙
      ap is (changed.kinds (name_in d k) (has_node-times p.trees (name_in d k) there)) ∙ plain)
