-- What is remembered of a node, and what it says.
use Rattle.dom_selectors.proofs.Cited.{◌≡◌, ℕ, Bool, ◌∷◌, Option, Some, None, MatchOption, refl, ap, sym, subst, ◌∙◌, list_any, same_Some, ancestors, Complex}
use Rattle.dom_selectors.proofs.Cited.{complex_matches, NamedTrees, name_at, Above, IsKnown, [], false, alone, joined, child, next, later}
use Rattle.dom_selectors.proofs.Cited.{descendant, compound_matches, selector_matches, NodeName}
use Rattle.dom_selectors.proofs.Cited.{◌<◌, ◌≤◌, arith, List, length, map, complex_view, IsKnownOfFirst}
use Rattle.dom_selectors.proofs.Cited.{and_parts, or_cases, inl, inr, none-some, true≢false, false≢true, StandOnce, StandAlone, parent_of}
use Rattle.dom_selectors.proofs.Cited.{Combinator, combined_with, option_to_list, Once-forest, true}
use Rattle.dom_selectors.proofs.JoinedLaws.{above-parent}
use Rattle.dom_selectors.specs.Known.{from_child, left_matches, IsKnownOf, IsNoChild, IsSaidBelow, IsUpward}
use Rattle.dom_selectors.specs.declared.above.Known.{Known}
use Rattle.dom_selectors.specs.declared.selector.Complex.{Complex as Read}

module _ (f : NamedTrees) (d : Complex) where
  -- whether a node or one above it matches
  abbrev pub some_from : ℕ → Bool
  some_from k = list_any (complex_matches f.trees d) (name_at f.names k ∷ ancestors f.trees (name_at f.names k))

  -- what is remembered of a node
  pub remembered : {m : Bool} (known : Option Above) (k : ℕ) → IsKnown f d known → MatchOption known ⊥ (λ a. (a.parent ≡ k) × (a.matches ≡ m)) → m ≡ some_from k
  remembered None k is e = absurd e
  remembered (Some a) k is e = sym e.1 ∙ (is a refl ∙ ap some_from e.0)

  -- what was found is remembered
  pub found_known : (a : Above) → a.matches ≡ some_from a.parent → IsKnown f d (Some a)
  found_known a e = λ x is. subst (λ (b : Above). b.matches ≡ some_from b.parent) (same_Some a x is) e

module _ (f : NamedTrees) (once : StandOnce f) (only : StandAlone f) where
  -- `>` or white space leaves nothing from a root
  pub from_root : (how : Combinator) → IsUpward how → (x : NodeName) → parent_of f.trees x ≡ None → combined_with f.trees how x ≡ []
  from_root descendant is x e = above-parent f.trees x (Once-forest f once only) None e
  from_root child is x e = ap option_to_list e
  from_root next is x e = absurd is
  from_root later is x e = absurd is

  -- what it leaves from another node is told by the parent
  pub from_parent : (how : Combinator) → IsUpward how → (x p : NodeName) → parent_of f.trees x ≡ Some p →
      combined_with f.trees how x ≡ from_child f.trees how p
  from_parent descendant is x p e = above-parent f.trees x (Once-forest f once only) (Some p) e
  from_parent child is x p e = ap option_to_list e
  from_parent next is x p e = absurd is
  from_parent later is x p e = absurd is

  -- what was found at the children of a node is said of it
  pub found_below : (d : Complex) (how : Combinator) → IsUpward how → (m : Bool) (key : ℕ) →
      list_any (complex_matches f.trees d) (from_child f.trees how (name_at f.names key)) ≡ m → IsSaidBelow f d how m (Some key)
  found_below d how up m key e = λ j is x p.
      ap (list_any (complex_matches f.trees d)) (from_parent how up x (name_at f.names j) p)
      ∙ ap (λ i. list_any (complex_matches f.trees d) (from_child f.trees how (name_at f.names i))) (sym (same_Some key j is))
      ∙ e

-- what is said of a node holds of its children
module _ (f : NamedTrees) (d : Complex) (how : Combinator) (m : Bool) where
  pub said_below : (known : Option ℕ) → IsSaidBelow f d how m known → (key : ℕ) → MatchOption known ⊥ (λ k. k ≡ key) → (x : NodeName) →
      parent_of f.trees x ≡ Some (name_at f.names key) → left_matches f.trees d how x ≡ m
  said_below None said key at x p = absurd at
  said_below (Some k) said key at x p = said k refl x (p ∙ ap (λ j. Some (name_at f.names j)) (sym at))

module _ (f : NamedTrees) (known : Known) (x : NodeName) where
  -- a node that matches a complex selector is no child of a node at whose children what is left fails
  no_child : (d : Complex) → IsKnownOf f d known → complex_matches f.trees d x ≡ true → IsNoChild f known.failing x
  no_child (alone k) said m = λ j is. absurd (none-some j (sym said ∙ is))
  no_child (joined left how k) said m = λ j is child.
      true≢false (sym (and_parts (compound_matches f.trees k x) (left_matches f.trees left how x) m).1 ∙ said.failing j is x child)

  -- so of one complex selector alone
  pub one_no_child : (cs : List Read) → (1 ≤ length cs) × (length cs < 2) → IsKnownOfFirst f cs known →
      selector_matches f.trees (map complex_view cs) x ≡ true → IsNoChild f known.failing x
  one_no_child [] one said m = absurd (omega (arith, one.0))
  one_no_child (c ∷ []) one said m = elim (or_cases (complex_matches f.trees (complex_view c) x) false m) [
    | inl here ↦ no_child (complex_view c) said here
    | inr none ↦ absurd (false≢true none)
  ]
  one_no_child (c ∷ e ∷ es) one said m = absurd (omega (arith, one.1))
