-- A step on trees moves one tree: what holds of each such move holds of the step.
use Rattle.dom_base.proofs.Std.{◌≡◌, inl, inr, List, Option, None, Some, refl, sym, ap, subst, ◌∙◌}
use Rattle.dom_model.proofs.Model.{NodeName, Word, DomString, Trees, none, tree, Node, subtree, parent_of, root_of, without, put_root, put_below, placed}
use Rattle.dom_model.proofs.Model.{taken_out, with_attribute}
use Rattle.dom_laws.proofs.Laws.{without-apart, Once-without, Has, has_or_not, Once}
use Rattle.dom_slots.specs.Definitions.{ShadowHost}
use Rattle.dom_slots.proofs.PlacedTrees.{Spot, Splits, splits, grafted, root-grafts, root-unparented, below-absent, below-grafts, Has-put_below}
use Rattle.dom_slots.proofs.Moved.{AreBoth}
use Rattle.dom_slots.proofs.Rooted.{root-below}

module _ (x : NodeName) (was now : Trees) (once : Once was) (at_was : Has was x) where
  abbrev rest : Trees
  rest = without x was

  abbrev split : Splits was x
  split = splits was x once at_was

  -- a node that is removed has no parent any more
  pub removal-unparented : now ≡ taken_out x was → parent_of now x ≡ None
  removal-unparented is =
      let off : Has rest split.node.name → ⊥ =
      λ h. without-apart was x split.node.name once h (subst (λ (ts : Trees). Has ts split.node.name) (sym split.alone) (inl refl)) in
      ap (λ (ts : Trees). parent_of ts x) (is ∙ ap (λ (ts : Trees). put_root x ts rest) split.alone)
      ∙ subst (λ z. parent_of (put_root x (tree split.node split.below none) rest) z ≡ None) split.name (root-unparented split.node split.below x rest off)

  module _ (at_now : Has now x) (parent : NodeName) (before : Option NodeName) (is : now ≡ placed x parent before was) where
    now_is : now ≡ put_below parent before (tree split.node split.below none) rest
    now_is = is ∙ ap (λ (ts : Trees). put_below parent before ts rest) split.alone

    -- the parent is among the others, else x would be nowhere
    parent_there : Has rest parent
    parent_there = elim (has_or_not rest parent) [
      | inl h ↦ h
      | inr off ↦
          let gone : now ≡ rest = now_is ∙ below-absent split.node split.below parent before rest off in
          absurd (without-apart was x x once (subst (λ (ts : Trees). Has ts x) gone at_now)
          (subst (λ (ts : Trees). Has ts x) (sym split.alone) (inl split.name)))
    ]

    -- and a node that is placed stands in its tree
    pub place-root : Once now → Has now parent → root_of now x ≡ root_of now parent
    place-root once_now at =
        root-below now once_now parent x at
        (subst (λ z. Has (subtree now parent) z) split.name
        (subst (λ (ts : Trees). Has (subtree ts parent) split.node.name) (sym now_is)
        (Has-put_below split.node split.below parent before rest (Once-without was x once) parent_there)))

-- what holds of each tree that is moved
module _ (names : List NodeName) (hosts : List ShadowHost) (P : NodeName → Trees → Trees → Type 0)
    (holds : (m : Node) (d us : Trees) (p q : Spot) → ((y : NodeName) → Has us y → Has (tree m d none) y → ⊥) →
    AreBoth names hosts (grafted m d p us) (grafted m d q us) → P m.name (grafted m d p us) (grafted m d q us))
    (x : NodeName) (was now : Trees) (both : AreBoth names hosts was now) (at_was : Has was x) where
  moved_so : (s : Splits was x) → (q : Spot) → now ≡ grafted s.node s.below q (without x was) → P x was now
  moved_so s q is =
      let us = without x was in
      let apart = λ (y : NodeName) (h : Has us y) (i : Has (tree s.node s.below none) y). without-apart was x y both.once_was h
      (subst (λ (ts : Trees). Has ts y) (sym s.alone) i) in
      subst (λ ts. P x ts now) (sym s.whole)
      (subst (P x (grafted s.node s.below s.spot us)) (sym is)
      (subst (λ z. P z (grafted s.node s.below s.spot us) (grafted s.node s.below q us)) s.name
      (holds s.node s.below us s.spot q apart
      (subst (λ ts. AreBoth names hosts ts (grafted s.node s.below q us)) s.whole (subst (AreBoth names hosts was) is both)))))

  -- holds of a removal
  pub removal-so : now ≡ taken_out x was → P x was now
  removal-so is =
      let s = splits was x both.once_was at_was in
      let w = root-grafts s.node s.below x (without x was) in
      moved_so s w.0 (is ∙ (ap (λ (ts : Trees). put_root x ts (without x was)) s.alone ∙ w.1))

  -- and of a placement
  pub place-so : Has now x → (parent : NodeName) (before : Option NodeName) → now ≡ placed x parent before was → P x was now
  place-so at_now parent before is =
      let s = splits was x both.once_was at_was in
      let w = below-grafts s.node s.below parent before (without x was) (Once-without was x both.once_was)
      (parent_there x was now both.once_was at_was at_now parent before is) in
      moved_so s w.0 (now_is x was now both.once_was at_was at_now parent before is ∙ w.1)

-- other attributes are another node of the same name
pub attribute-name : (a : Word) (v : Option DomString) (n : Node) → (with_attribute a v n).name ≡ n.name
attribute-name a None n = refl
attribute-name a (Some v) n = refl
