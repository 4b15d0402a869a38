use Rattle.dom_traversal.proofs.Cited.{◌≡◌, ℕ, ◌<◌, length, true, false, Option, Some, refl, sym, ap, subst, ◌∙◌, inl, inr, option_map, both_ways, above-chain}
use Rattle.dom_traversal.proofs.Cited.{above-within, ahead-outside, ahead_of, beyond-outside, Has-forest, In-from, In-not, is_in-from, is_inclusive_ancestor}
use Rattle.dom_traversal.proofs.Cited.{IsWithin-key, last_of, name_at, NamedTrees, NodeName, none_left, Once-forest, preceding_step, some_ahead, StandAlone}
use Rattle.dom_traversal.proofs.Cited.{StandOnce, StandsIn, within-top, IsIteratorOf}
use Rattle.dom_traversal.proofs.iter.Iter.on_remove.Goals.{Else-not-is_inclusive_ancestor}
use Rattle.dom_traversal.proofs.iter.Iter.on_remove.Goals as goal

-- A node that does not stand above the root.
module _ (f : NamedTrees) (once : StandOnce f) (only : StandAlone f) (root node : ℕ)
    (off : is_inclusive_ancestor f.trees (name_at f.names node) (name_at f.names root) ≡ false) where
  -- a node above the reference and not above the root stands in the root's tree
  below_root : (reference : ℕ) → StandsIn f root reference → node < length f.names →
      is_inclusive_ancestor f.trees (name_at f.names node) (name_at f.names reference) ≡ true → StandsIn f root node
  below_root reference s at_node above =
      let chain = above-chain f.trees (name_at f.names root) (name_at f.names node) (name_at f.names reference) (Once-forest f once only)
      (Has-forest f once reference s.node) (In-from _ _ s.within) (In-from _ _ above) in
      elim chain [
        | inl i ↦ record { node = at_node; within = is_in-from _ _ i }
        | inr i ↦ absurd (In-not _ _ off i)
      ]

  -- and something stands before it there
  not_first : (found : Option ℕ) → StandsIn f root node
      → option_map (name_at f.names) found ≡ last_of (ahead_of f.trees (name_at f.names root) (name_at f.names node)) → ((k : ℕ) → found ≡ Some k → ⊥) → ⊥
  not_first found s is empty =
      let w = IsWithin-key f once only root node s in
      let top = within-top f.trees (name_at f.names root) (name_at f.names node) w in
      some_ahead f.trees (name_at f.names root) (name_at f.names node) top
      (λ same. both_ways _ off (subst (λ (x : NodeName). is_inclusive_ancestor f.trees x (name_at f.names root) ≡ true) (sym same)
      (above-within f.trees (name_at f.names root) (name_at f.names root) top)))
      (sym is ∙ ap (option_map (name_at f.names)) (none_left found empty))

-- what is removed stands in the root's tree
below : (c : Else-not-is_inclusive_ancestor) → StandsIn c.args.forest.now c.self.inside.root c.args.node
below c =
    let f = c.args.forest.now in
    let placed = subst (IsIteratorOf f) (sym c.self.view_is) c.requires.iterator in
    below_root f c.law_nodes_stand_once.ensures.once c.law_nodes_stand_once.ensures.only c.self.inside.root c.args.node
    (sym c.if-is_inclusive_ancestor.ensures) c.self.inside.reference placed.reference c.requires.node_is_node
    (sym c.if-not-is_inclusive_ancestor.ensures)

pub beyond-requires-clause-stands : goal.beyond-requires-clause-stands
beyond-requires-clause-stands c = below (goal.at.beyond-requires-clause-stands c).Else-not-is_inclusive_ancestor

pub preceding-requires-clause-within : goal.preceding-requires-clause-within
preceding-requires-clause-within c = (below (goal.at.preceding-requires-clause-within c).Else-not-is_inclusive_ancestor).within

pub returns-in-Some-clause-left : goal.returns-in-Some-clause-left
returns-in-Some-clause-left c =
    let f = c.args.forest.now in
    λ _. beyond-outside f.trees (name_at f.names c.self.inside.root) (name_at f.names c.args.node) (name_at f.names c.in-Some.next)
    (sym c.in-Some.ensures.value)

pub returns-in-Some-preceding-clause-kept : goal.returns-in-Some-preceding-clause-kept
returns-in-Some-preceding-clause-kept c =
    let placed = subst (IsIteratorOf c.args.forest.now) (sym c.self.view_is) c.requires.iterator in
    let step = preceding_step c.law_nodes_stand_once.ensures.once c.law_nodes_stand_once.ensures.only (Some c.in-Some-preceding.previous)
    (below (goal.at.returns-in-Some-preceding-clause-kept c).Else-not-is_inclusive_ancestor) c.in-Some-preceding.ensures.value
    c.in-Some-preceding.ensures.node in
    record { root = placed.root; reference = step.1 c.in-Some-preceding.previous refl }

pub returns-in-Some-preceding-clause-left : goal.returns-in-Some-preceding-clause-left
returns-in-Some-preceding-clause-left c = λ _.
    let f = c.args.forest.now in
    ahead-outside f.trees (name_at f.names c.self.inside.root) (name_at f.names c.args.node) (name_at f.names c.in-Some-preceding.previous)
    (IsWithin-key f c.law_nodes_stand_once.ensures.once c.law_nodes_stand_once.ensures.only c.self.inside.root c.args.node
    (below (goal.at.returns-in-Some-preceding-clause-left c).Else-not-is_inclusive_ancestor))
    (sym c.in-Some-preceding.ensures.value)

pub returns-in_default-preceding-clause-left : goal.returns-in_default-preceding-clause-left
returns-in_default-preceding-clause-left c = λ _.
    absurd (not_first c.args.forest.now c.law_nodes_stand_once.ensures.once c.law_nodes_stand_once.ensures.only c.self.inside.root c.args.node
    (sym c.if-is_inclusive_ancestor.ensures) c.preceding.result
    (below (goal.at.returns-in_default-preceding-clause-left c).Else-not-is_inclusive_ancestor) c.preceding.ensures.value
    c.in_default-preceding.not-Some)
