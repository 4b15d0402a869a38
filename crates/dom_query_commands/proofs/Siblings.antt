-- The children of a node from one of them on, along the links from sibling to sibling.
use Rattle.dom_query_commands.proofs.Cited.{◌≡◌, ℕ, ◌<◌, inl, List, [], ◌∷◌, length, Option, Some, None, sym, ap, subst, ◌∙◌, option_map, option_map_or}
use Rattle.dom_query_commands.proofs.Cited.{NodeName, name_eq, first_of, items_after, Trees, parent_of, children_of, siblings, next_sibling, name_at}
use Rattle.dom_query_commands.proofs.Cited.{above-parent, after-in, from_first, from_next, from_sibling, Has, Has-forest, In, Once, Once-forest}
use Rattle.dom_query_commands.proofs.Cited.{parent-of_child, StandAlone, StandOnce}
use Rattle.dom_query_commands.proofs.UniqueNames.{named}

-- where a node is given, it is a child of this parent
abbrev pub IsChildOf : Trees → NodeName → Option NodeName → Type 0
IsChildOf ts parent None = Unit {0}
IsChildOf ts parent (Some x) = parent_of ts x ≡ Some parent

module _ (names : List NodeName) (ts : Trees) (once : StandOnce (named names ts)) (only : StandAlone (named names ts)) where
  unique : Once ts
  unique = Once-forest (named names ts) once only

  -- the first of some children
  first_of_children : (parent : NodeName) (xs : List NodeName) (o : Option NodeName) → Has ts parent →
      ((x : NodeName) → In x xs → In x (children_of ts parent)) → o ≡ first_of xs → IsChildOf ts parent o
  first_of_children parent xs None has among e = tt
  first_of_children parent [] (Some x) has among e = cc
  first_of_children parent (y ∷ ys) (Some x) has among e =
      let same : x ≡ y = cc in (parent-of_child ts parent x unique has (among x (inl same))).0

  -- from the first child on
  pub begins : (key : ℕ) → key < length names → (at : Option ℕ) → option_map (name_at names) at ≡ first_of (children_of ts (name_at names key)) →
      (from_sibling ts (option_map (name_at names) at) ≡ children_of ts (name_at names key)) ×
      IsChildOf ts (name_at names key) (option_map (name_at names) at)
  begins key inside at is =
      let p = name_at names key in (
        ap (from_sibling ts) is ∙ from_first ts unique p,
        first_of_children p (children_of ts p) (option_map (name_at names) at) (Has-forest (named names ts) once key inside) (λ x i. i) is,
      )

  -- and from the next one on
  pub goes_on : {k : ℕ} {at : Option ℕ} (parent : NodeName) → k < length names → (next : Option ℕ) → at ≡ Some k →
      option_map (name_at names) next ≡ next_sibling ts (name_at names k) →
      IsChildOf ts parent (option_map (name_at names) at) →
      (from_sibling ts (option_map (name_at names) at) ≡ name_at names k ∷ from_sibling ts (option_map (name_at names) next)) ×
      IsChildOf ts parent (option_map (name_at names) next)
  goes_on {k = k} {at = at} parent inside next is follows child =
      let x = name_at names k in
      let here : parent_of ts x ≡ Some parent = subst (λ o. IsChildOf ts parent (option_map (name_at names) o)) is child in
      let all : siblings ts x ≡ children_of ts parent = ap (λ o. option_map_or (children_of ts) o (x ∷ [])) here in (
        ap (λ o. from_sibling ts (option_map (name_at names) o)) is ∙
            ap (λ ys. x ∷ ys) (sym (ap (from_sibling ts) follows ∙ from_next ts unique x)),
        first_of_children parent (items_after name_eq x (children_of ts parent)) (option_map (name_at names) next)
            (above-parent ts x parent unique (Has-forest (named names ts) once k inside) here).1
            (λ y. after-in x y (children_of ts parent)) (follows ∙ ap (λ ys. first_of (items_after name_eq x ys)) all),
      )
