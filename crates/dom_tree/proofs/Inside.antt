-- A walk through the tree of a node, and which of its nodes are still to come.
use Rattle.dom_base.proofs.Std.{◌≡◌, ◌≢◌, ◌⊎◌, inl, inr, ℕ, ◌<◌, Bool, false, ◌||◌, length, Option, Some, None, ap, ◌∙◌, sym, subst, option_map, ForSome}
use Rattle.dom_model.proofs.Model.{NodeName, name_eq, is_in, parent_of, inclusive_descendants, is_inclusive_ancestor, name_eq-other}
use Rattle.dom_tree.specs.Definitions.{NamedTrees, name_at, StandsIn, TellApart}
use Rattle.dom_laws.specs.Within.{behind, beyond, from_node}
use Rattle.dom_laws.proofs.Laws.{above-parent, above-root, above-within, behind_is, below, here, In, In-left}
use Rattle.dom_tree.proofs.Searching.{IsWithin-itself}
use Rattle.dom_tree.proofs.Standing.{Has-forest, Once-forest, StandAlone, StandOnce}

module _ (f : NamedTrees) (top : ℕ) where
  -- the names from a key on, in the tree of the top
  abbrev pub from_key : Option ℕ → NodeName → Type 0
  from_key at y = In y (from_node f.trees (name_at f.names top) (option_map (name_at f.names) at))

  -- from the top on are all
  pub all-from_top : StandOnce f → StandAlone f → top < length f.names → (y : NodeName) →
      In y (inclusive_descendants f.trees (name_at f.names top)) → from_key (Some top) y
  all-from_top once only node y i =
      let x = name_at f.names top in
      let w = IsWithin-itself f once only top node in
      elim (subst (In y) (here f.trees x x w) i) [
        | inl e ↦ inl e
        | inr j ↦ inr (subst (In y) (sym (behind_is f.trees x x w)) (In-left y (below f.trees x) (beyond f.trees x x) j))
      ]

  -- and the top stands in its tree
  pub top-stands : StandOnce f → StandAlone f → top < length f.names → ForSome (Some top) (StandsIn f top)
  top-stands once only node =
      λ k e.
      let same : k ≡ top = cc in
      rw same record { node = node; within = above-within f.trees (name_at f.names top) (name_at f.names top) (IsWithin-itself f once only top node) }

  -- of the names from a key on those that are not its own are from the next key on
  pub next-from : {k : ℕ} {at : Option ℕ} (next : Option ℕ) → at ≡ Some k →
      behind f.trees (name_at f.names top) (name_at f.names k) ≡ from_node f.trees (name_at f.names top) (option_map (name_at f.names) next) →
      (y : NodeName) → from_key at y → (y ≡ name_at f.names k) ⊎ from_key next y
  next-from next is e y i = elim (subst (λ o. from_key o y) is i) [
    | inl same ↦ inl same
    | inr j ↦ inr (subst (In y) e j)
  ]

-- a node that is not `top` is in the tree of `top` just if its parent is, and a root is not
module _ (f : NamedTrees) (once : StandOnce f) (only : StandAlone f) (distinct : TellApart f.names) (top k : ℕ)
    (top_is_node : top < length f.names) (node : k < length f.names) (other : k ≢ top) where
  -- whether a node stands there
  abbrev inside : ℕ → Bool
  inside j = is_inclusive_ancestor f.trees (name_at f.names top) (name_at f.names j)

  passes : name_eq (name_at f.names top) (name_at f.names k) ≡ false
  passes = name_eq-other (name_at f.names top) (name_at f.names k) (λ same. other (distinct k top node top_is_node (sym same)))

  pub inside-up : (p : ℕ) → Some (name_at f.names p) ≡ parent_of f.trees (name_at f.names k) → inside k ≡ inside p
  inside-up p e =
      let up = above-parent f.trees (name_at f.names k) (name_at f.names p) (Once-forest f once only) (Has-forest f once k node) (sym e) in
      ap (is_in name_eq (name_at f.names top)) up.0 ∙ ap (λ b. b || inside p) passes

  pub inside-root : None ≡ parent_of f.trees (name_at f.names k) → inside k ≡ false
  inside-root e =
      ap (is_in name_eq (name_at f.names top)) (above-root f.trees (name_at f.names k) (Has-forest f once k node) (sym e)) ∙ ap (λ b. b || false) passes
