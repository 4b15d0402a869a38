-- A walk through the tree below a node.
use Rattle.dom_selectors.proofs.Cited.{◌≡◌, ℕ, Bool, true, false, List, [], ◌∷◌, ◌++◌, ap, sym, ◌∙◌, append_assoc, map, filter, drop, map-append, None}
use Rattle.dom_selectors.proofs.Cited.{none-some, NodeName, Trees, descendants, NamedTrees, behind, IsKnownOfFirst, filter-yes, filter-no, IsWithin, ordered}
use Rattle.dom_selectors.proofs.Cited.{top_places, has_asked, inl, inr, true≢false, or_cases, cases_Bool, compound_matches, complex_matches, selector_matches}
use Rattle.dom_selectors.proofs.Cited.{last_compound, complex_view}
use Rattle.dom_selectors.proofs.Chains.{not_last}
use Rattle.dom_selectors.proofs.Cited.{alone, joined}
use Rattle.dom_model.specs.Selectors.{Complex as Joined}
use Rattle.dom_selectors.specs.Known.{CompoundAsks, IsFirstLeft, IsFirstUnasked, IsKnownOf, SelectorAsks}
use Rattle.dom_selectors.specs.declared.above.Known.{Known}
use Rattle.dom_selectors.specs.declared.asking.Asked.{Asked}
use Rattle.dom_selectors.specs.declared.selector.Complex.{Complex}
use Rattle.dom_selectors.specs.declared.selector.CompoundPart.{CompoundPart}

module _ (f : NamedTrees) (known : Known) (fails : known.failing ≡ None) (matches : known.matching ≡ None) (above : known.above ≡ None) where
  -- nothing is remembered of a complex selector
  nothing_of : (d : Joined) → IsKnownOf f d known
  nothing_of (alone k) = fails
  nothing_of (joined left how k) = record {
    failing = λ j h. absurd (none-some j (sym fails ∙ h));
    matching = λ j h. absurd (none-some j (sym matches ∙ h));
    above = λ a h. absurd (none-some a (sym above ∙ h));
  }

  -- at first nothing is remembered
  pub nothing_known : (cs : List Complex) → IsKnownOfFirst f cs known
  nothing_known [] = tt
  nothing_known (c ∷ cs) = nothing_of (complex_view c)

module _ (asked : Asked) where
  -- what is left of a compound where a node has what is asked for
  pub left_here : (ts : Trees) (x : NodeName) (cs : List Complex) (left : List CompoundPart) → IsFirstUnasked cs left asked → has_asked ts x asked ≡ true →
      IsFirstLeft ts x cs left
  left_here ts x [] left u h = tt
  left_here ts x (c ∷ cs) left u h = u ts x h

  -- one more complex selector asks for it
  pub one_more : (c : Complex) (cs : List Complex) → CompoundAsks (last_compound (complex_view c)) asked → SelectorAsks (map complex_view cs) asked →
      SelectorAsks (map complex_view (c ∷ cs)) asked
  one_more c cs one rest ts x e = elim (or_cases (complex_matches ts (complex_view c) x) (selector_matches ts (map complex_view cs) x) e) [
    | inl m ↦ elim (cases_Bool (compound_matches ts (last_compound (complex_view c)) x)) [
      | inl h ↦ one ts x h
      | inr h ↦ absurd (true≢false (sym m ∙ not_last ts (complex_view c) x h))
    ]
    | inr m ↦ rest ts x m
  ]

-- the nodes behind the top are those below it
pub behind_top : (ts : Trees) (top : NodeName) → IsWithin ts top top → behind ts top top ≡ descendants ts top
behind_top ts top w = sym (ap (drop 1) (ordered ts top top w ∙ ap (λ xs. xs ++ top ∷ behind ts top top) (top_places ts top w).0))

module _ (name : ℕ → NodeName) (test : NodeName → Bool) (found : List ℕ) (k : ℕ) (rest : List NodeName) where
  -- a node that passes is taken
  pub taken : test (name k) ≡ true → map name (found ++ k ∷ []) ++ filter test rest ≡ map name found ++ filter test (name k ∷ rest)
  taken h =
      ap (λ xs. xs ++ filter test rest) (map-append name found (k ∷ []))
      ∙ append_assoc (map name found) (name k ∷ []) (filter test rest)
      ∙ ap (λ xs. map name found ++ xs) (sym (filter-yes test (name k) rest h))

  -- another one is left
  pub left_out : test (name k) ≡ false → map name found ++ filter test rest ≡ map name found ++ filter test (name k ∷ rest)
  left_out h = ap (λ xs. map name found ++ xs) (sym (filter-no test (name k) rest h))
