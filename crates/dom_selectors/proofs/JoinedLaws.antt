-- Complex selectors seen from the right, and the ancestors of a node one after another.
use Rattle.dom_selectors.proofs.Cited.{◌≡◌, ℕ, suc, ◌<◌, Bool, false, List, [], ◌∷◌, ◌++◌, length, Option, Some, None, refl, ap, sym, ◌∙◌, arith, ◌||◌}
use Rattle.dom_selectors.proofs.Cited.{map, fold, list_any, option_map, map-append, fold-append, drop, NodeName, alone, joined, link, Trees, ancestors}
use Rattle.dom_selectors.proofs.Cited.{parent_of, CompoundPart, NamedTrees, name_at, Link, combinator_view, link_view, complex_from, StandOnce}
use Rattle.dom_selectors.proofs.Cited.{StandAlone, Once-forest, inl, inr, none-some, first_of, no_first, has_or_not, above-absent, proper-parent, Once}

-- a last link is the outermost
pub joined_last : (first : List CompoundPart) (left : List Link) (last : Link) →
    complex_from first (left ++ last ∷ []) ≡ link (complex_from first left) (link_view last)
joined_last first left last =
    ap (fold link (alone first)) (map-append link_view left (last ∷ [])) ∙ fold-append link (alone first)
    (map link_view left) (link_view last ∷ [])

-- a selector whose last link is taken off is joined again by that link
pub last-joined : (first : List CompoundPart) (links left : List Link) (last : Link) → links ≡ left ++ last ∷ [] →
    complex_from first links ≡ joined (complex_from first left) (combinator_view last.combinator) last.compound
last-joined first links left last e = ap (complex_from first) e ∙ joined_last first left last

-- without links there is the first compound alone
pub no-links : (first : List CompoundPart) (links : List Link) → length links ≡ 0 → complex_from first links ≡ alone first
no-links first [] e = refl
no-links first (l ∷ ls) e = absurd (omega (arith, e))

-- the ancestors of a node from one on; none where there is no node
abbrev pub from_above : Trees → Option NodeName → List NodeName
from_above ts None = []
from_above ts (Some x) = x ∷ ancestors ts x

-- the ancestors of a node are its parent and those above it
pub above-parent : (ts : Trees) (x : NodeName) → Once ts → (o : Option NodeName) → parent_of ts x ≡ o → ancestors ts x ≡ from_above ts o
above-parent ts x once None up = no_first (ancestors ts x) up
above-parent ts x once (Some p) up = elim (has_or_not ts x) [
  | inl h ↦ (proper-parent ts x p once h up).0
  | inr off ↦ absurd (none-some p (ap (λ path. first_of (drop 1 path)) (sym (above-absent ts x off)) ∙ up))
]

module _ (f : NamedTrees) where
  -- the ancestors of a node are its parent and those above it, by keys
  pub above_step : StandOnce f → StandAlone f → (k : ℕ) (o : Option ℕ) →
      option_map (name_at f.names) o ≡ parent_of f.trees (name_at f.names k) →
      ancestors f.trees (name_at f.names k) ≡ from_above f.trees (option_map (name_at f.names) o)
  above_step once only k o is = above-parent f.trees (name_at f.names k) (Once-forest f once only) (option_map (name_at f.names) o) (sym is)

  -- there are fewer above a node than from it on
  pub above_less : (k : ℕ) (at o : Option ℕ) → at ≡ Some k → ancestors f.trees (name_at f.names k) ≡ from_above f.trees (option_map (name_at f.names) o) →
      length (from_above f.trees (option_map (name_at f.names) o)) < length (from_above f.trees (option_map (name_at f.names) at))
  above_less k at o is e =
      let longer : length (from_above f.trees (option_map (name_at f.names) at)) ≡ suc (length (ancestors f.trees (name_at f.names k))) =
      ap (λ o'. length (from_above f.trees (option_map (name_at f.names) o'))) is in
      omega (arith, longer, ap (length {A = NodeName}) e)

-- an ancestor that fails a test is passed by
pub above_miss : {k : ℕ} {at : Option ℕ} (f : NamedTrees) (p : NodeName → Bool) (o : Option ℕ) → at ≡ Some k → p (name_at f.names k) ≡ false →
    ancestors f.trees (name_at f.names k) ≡ from_above f.trees (option_map (name_at f.names) o) →
    list_any p (from_above f.trees (option_map (name_at f.names) o)) ≡ list_any p (from_above f.trees (option_map (name_at f.names) at))
above_miss {k} {at = at} f p o is h e =
    ap (list_any p) (sym e)
    ∙ sym (ap (λ o'. list_any p (from_above f.trees (option_map (name_at f.names) o'))) is ∙
    ap (λ b. b || list_any p (ancestors f.trees (name_at f.names k))) h)
