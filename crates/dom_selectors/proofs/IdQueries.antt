-- Queries that one node alone may answer.
use Rattle.dom_selectors.proofs.Cited.{◌≡◌, inl, inr, ℕ, ◌<◌, Bool, true, false, ◌&&◌, ◌||◌, true≢false, List, [], ◌∷◌, length, Option}
use Rattle.dom_selectors.proofs.Cited.{Some, None, refl, sym, ap, subst, ◌∙◌, drop, filter, get_or, option_map_or, codes, cases_Bool}
use Rattle.dom_selectors.proofs.Cited.{and_parts, false_from_ne_true, Trees, NodeName, name_eq, is_in, inclusive_descendants, descendants, name_eq-other}
use Rattle.dom_selectors.proofs.Cited.{compound_matches, selector_matches, DomString, kind_of, is_element, node_in, attribute_value}
use Rattle.dom_selectors.proofs.Cited.{value_passes, simple_matches, Owner, has_node, names_of, nodes, NamedTrees, name_at, AreOwned, HasId, NearLaw, StandOnce}
use Rattle.dom_selectors.proofs.Cited.{StandAlone, name_found, IsWithin-itself, text_same, In, In-from, is_in-from, is_in-not, In-names, Single}
use Rattle.dom_selectors.proofs.Cited.{filter-yes, filter-no, filter-none, IsWithin, all_single, here, below, stands_in, within-member}
use Rattle.dom_model.specs.Selectors.{Complex, of_id, equals, part_matches}
use Rattle.dom_selectors.specs.declared.selector.CompoundPart.{CompoundPart}
use Rattle.dom_selectors.specs.declared.selector.Complex.{Complex as Read}
use Rattle.dom_selectors.specs.Views.{part_view, compound_view}
use Rattle.dom_base.proofs.Std.{◌⊎◌}
use Rattle.std.specs.Prelude.{◌-◌}
use Rattle.dom_selectors.proofs.Cited.{◌≤◌, arith, complex_matches, complex_view, map, or_cases, take}
use Rattle.dom_selectors.proofs.SignLaws.{all_others}
use Rattle.dom_selectors.specs.Search.{last_compound}
use Rattle.dom_selectors.proofs.Anywhere.{one_seen}
use Rattle.dom_selectors.proofs.Chains.{not_last}

-- where all that pass are one, it is taken alone
module _ (p : NodeName → Bool) (x : NodeName) where
  one_taken : (xs : List NodeName) → Single xs → ((y : NodeName) → In y xs → p y ≡ true → y ≡ x) → In x xs → p x ≡ true → filter p xs ≡ x ∷ []
  one_taken [] single alone found passes = absurd found
  one_taken (y ∷ ys) single alone (inl e) passes =
      filter-yes p y ys (subst (λ z. p z ≡ true) e passes)
      ∙ ap (λ zs. y ∷ zs) (filter-none p ys (λ z i. false_from_ne_true (p z) (λ t. single.0 (subst (λ w. In w ys) (alone z (inr i) t ∙ e) i))))
      ∙ ap (λ z. z ∷ []) (sym e)
  one_taken (y ∷ ys) single alone (inr h) passes =
      filter-no p y ys (false_from_ne_true (p y) (λ t. single.0 (subst (λ w. In w ys) (sym (alone y (inl refl) t)) h)))
      ∙ one_taken ys single.1 (λ z i t. alone z (inr i) t) h passes

module _ (ts : Trees) (top : NodeName) (w : IsWithin ts top top) where
  descendants-below : descendants ts top ≡ below ts top
  descendants-below = ap (drop 1) (here ts top top w)

  single_below : (In top (below ts top) → ⊥) × Single (below ts top)
  single_below = subst Single (here ts top top w) (all_single ts top top w)

  -- who stands below the top: not the top, and of others who stands in its tree
  pub below_itself : (x : NodeName) → x ≡ top → is_in name_eq x (descendants ts top) ≡ false
  below_itself x e = ap (is_in name_eq x) descendants-below ∙ is_in-not x (below ts top) (λ i. single_below.0 (subst (λ y. In y (below ts top)) e i))

  pub below_other : (x : NodeName) → (x ≡ top → ⊥) → is_in name_eq x (inclusive_descendants ts top) ≡ is_in name_eq x (descendants ts top)
  below_other x other =
      ap (is_in name_eq x) (here ts top top w) ∙ ap (λ b. b || is_in name_eq x (below ts top)) (name_eq-other x top other)
      ∙ sym (ap (is_in name_eq x) descendants-below)

  module _ (p : NodeName → Bool) (x : NodeName) (alone : (y : NodeName) → is_in name_eq y (descendants ts top) ≡ true → p y ≡ true → y ≡ x) where
    -- the one is there and passes
    pub one_found : (is_in name_eq x (descendants ts top) && p x) ≡ true → x ∷ [] ≡ filter p (descendants ts top)
    one_found e =
        let both = and_parts (is_in name_eq x (descendants ts top)) (p x) e in
        sym (one_taken p x (descendants ts top) (subst Single (sym descendants-below) single_below.1)
        (λ y i t. alone y (is_in-from y (descendants ts top) i) t) (In-from x (descendants ts top) both.0) both.1)

    -- it is not, or fails
    pub none_found : (is_in name_eq x (descendants ts top) && p x) ≡ false → [] ≡ filter p (descendants ts top)
    none_found off = sym (filter-none p (descendants ts top) (λ y i. false_from_ne_true (p y) (λ t. both y i t)))
      where
        both : (y : NodeName) → In y (descendants ts top) → p y ≡ true → ⊥
        both y i t =
            let there = is_in-from y (descendants ts top) i in
            true≢false (sym (subst (λ z. (is_in name_eq z (descendants ts top) && p z) ≡ true) (alone y there t)
            (ap (λ b. b && p y) there ∙ t)) ∙ off)

-- what matches a complex selector matches its compound on the right
pub last_matches : (ts : Trees) (c : Complex) (x : NodeName) → complex_matches ts c x ≡ true → compound_matches ts (last_compound c) x ≡ true
last_matches ts c x e = elim (cases_Bool (compound_matches ts (last_compound c) x)) [
  | inl h ↦ h
  | inr h ↦ absurd (true≢false (sym e ∙ not_last ts c x h))
]

-- what matches some complex selectors matches the first or one of the others
module _ (ts : Trees) (x : NodeName) where
  pub first_or_others : (cs : List Read) (d : Read) → 1 ≤ length cs → selector_matches ts (map complex_view cs) x ≡ true →
      (complex_matches ts (complex_view (get_or cs 0 d)) x ≡ true) ⊎
      (selector_matches ts (map complex_view (take (length cs - 1) (drop 1 cs))) x ≡ true)
  first_or_others [] d some e = absurd (omega (arith, some))
  first_or_others (c ∷ cs) d some e =
      elim (or_cases (complex_matches ts (complex_view c) x) (selector_matches ts (map complex_view cs) x) e) [
        | inl h ↦ inl h
        | inr h ↦ inr (subst (λ (ds : List Read). selector_matches ts (map complex_view ds) x ≡ true) (sym (all_others c cs)) h)
      ]

-- who matches `#NAME` has this ID
pub id_asked : (ts : Trees) (x : NodeName) (v : DomString) → simple_matches ts x (of_id v) ≡ true → HasId ts x v
id_asked ts x v e = by (attribute_value (node_in ts x) (codes "id")) e
  where
    by : (o : Option DomString) → option_map_or (value_passes equals v) o false ≡ true → o ≡ Some v
    by None e = absurd (true≢false (sym e))
    by (Some s) e = ap Some (text_same s v e)

-- who matches a compound matches each of its parts
module _ (ts : Trees) (x : NodeName) where
  pub part_asked : (ps : List CompoundPart) (i : ℕ) (d : CompoundPart) → compound_matches ts (compound_view ps) x ≡ true → i < length ps →
      part_matches ts x (part_view (get_or ps i d)) ≡ true
  part_asked ps i d e l = one_seen (part_matches ts x) part_view ps i d ((and_parts (is_element (kind_of ts x)) _ e).1) l

-- nobody passes
pub nobody_found : (p : NodeName → Bool) (xs : List NodeName) → ((y : NodeName) → is_in name_eq y xs ≡ true → p y ≡ true → ⊥) → [] ≡ filter p xs
nobody_found p xs none = sym (filter-none p xs (λ y i. false_from_ne_true (p y) (λ t. none y (is_in-from y xs i) t)))

-- a key of the same owner's
pub record IsKeyOf (f : NamedTrees) (o : Owner) (x : NodeName) (k : ℕ) : Type 0 where
  pub node : k < length f.names
  pub named : name_at f.names k ≡ x
  pub owner : (name_at f.names k).owner ≡ o

-- a node below another one has one
module _ (f : NamedTrees) (once : StandOnce f) (only : StandAlone f) (owned : AreOwned f.trees) (near : NearLaw) where
  all_below : (x : NodeName) (xs : List NodeName) → In x (drop 1 xs) → In x xs
  all_below x [] i = i
  all_below x (y ∷ ys) i = inr i

  pub key_below : (top : ℕ) → top < length f.names → (x : NodeName) → is_in name_eq x (descendants f.trees (name_at f.names top)) ≡ true →
      (k : ℕ) × IsKeyOf f (name_at f.names top).owner x k
  key_below top node x below =
      let a = name_at f.names top in
      let w = IsWithin-itself f once only top node in
      let inside : In x (inclusive_descendants f.trees a) =
      all_below x (inclusive_descendants f.trees a) (In-from x (descendants f.trees a) below) in
      let stands : has_node f.trees x ≡ true =
      is_in-from x (names_of (nodes f.trees)) (In-names f.trees x (stands_in f.trees a x (within-member f.trees a a x w inside))) in
      let key = only x stands in
      let at = name_found f.names key.0 x key.1 in (
        key.0,
        record {
          node = at.0;
          named = at.1;
          owner = ap (λ (y : NodeName). y.owner) at.1 ∙
              (near f.trees owned a.owner a refl).inside x (is_in-from x (inclusive_descendants f.trees a) inside);
        },
      )

-- the one that is searched for is found, or matches what is left
abbrev pub IsLeft : Option ℕ → ℕ → Bool → Type 0
IsLeft only k rest = (only ≡ Some k) ⊎ (rest ≡ true)

-- nothing is left
pub none_left : {only : Option ℕ} {k : ℕ} (ts : Trees) (x : NodeName) (cs : List Read) → length cs < 1 →
    IsLeft only k (selector_matches ts (map complex_view cs) x) → only ≡ Some k
none_left ts x cs none (inl e) = e
none_left ts x [] none (inr e) = absurd (true≢false (sym e))
none_left ts x (c ∷ cs) none (inr e) = absurd (omega (arith, none))
