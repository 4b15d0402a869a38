-- Where the places of two nodes of a tree part: by which stands before the other in tree order.
use Rattle.dom_range_ops.proofs.Cited.{◌≡◌, ◌⊎◌, inl, inr, ℕ, zero, suc, ◌+◌, ◌<◌, ◌≤◌, List, [], ◌∷◌, ◌++◌, length, Option, Some, None, refl, sym, ap, subst}
use Rattle.dom_range_ops.proofs.Cited.{◌∙◌, arith, append_assoc, length-append, option_map_or, append-nil, flat_map-cons, NodeName, name_eq, items_before}
use Rattle.dom_range_ops.proofs.Cited.{items_after, place_of, Trees, subtree, inclusive_ancestors, inclusive_descendants, parent_of, children_of, index_of}
use Rattle.dom_range_ops.proofs.Cited.{path-child, parent-of_child, child-of_parent, Has-names, children-single, In, In-right, In-parts, Single, Single-apart}
use Rattle.dom_range_ops.proofs.Cited.{same_or_not, split_at, before-split, IsWithin, stands_in, joined, Has, above-parent, above-present, Once, child_places}
use Rattle.dom_range_ops.proofs.Cited.{top_places, within-parent, within-root, ahead_of, beyond}

-- the places of x and y part, and that of x is first
pub record Parted (ts : Trees) (x y : NodeName) : Type 0 where
  pub common : List ℕ
  pub first : ℕ
  pub second : ℕ
  pub first_rest : List ℕ
  pub second_rest : List ℕ
  pub first_place : place_of ts x ≡ common ++ first ∷ first_rest
  pub second_place : place_of ts y ≡ common ++ second ∷ second_rest
  pub less : first < second

-- y stands in or below a child of x, of this number
pub record Under (ts : Trees) (x y : NodeName) : Type 0 where
  pub child : ℕ
  pub rest : List ℕ
  pub place : place_of ts y ≡ place_of ts x ++ child ∷ rest

-- the places of nodes below two whose places part
parted-below : {ts : Trees} {x y a b : NodeName} (m n : List ℕ) → Parted ts x y → place_of ts a ≡ place_of ts x ++ m → place_of ts b ≡ place_of ts y ++ n →
    Parted ts a b
parted-below m n k first second = record {
  common = k.common;
  first = k.first;
  second = k.second;
  first_rest = k.first_rest ++ m;
  second_rest = k.second_rest ++ n;
  first_place = first ∙ (ap (λ path. path ++ m) k.first_place ∙ append_assoc k.common (k.first ∷ k.first_rest) m);
  second_place = second ∙ (ap (λ path. path ++ n) k.second_place ∙ append_assoc k.common (k.second ∷ k.second_rest) n);
  less = k.less;
}

-- s is a child of p, between these
pub record IsKidOf (ts : Trees) (p s : NodeName) (front back : List NodeName) : Type 0 where
  pub there : Has ts p
  pub kids : children_of ts p ≡ front ++ s ∷ back

-- and so are these
pub record AreKidsOf (ts : Trees) (p : NodeName) (front kids back : List NodeName) : Type 0 where
  pub there : Has ts p
  pub all : children_of ts p ≡ front ++ (kids ++ back)

-- a node of some trees is in one of them
pub joined-in : (ts : Trees) (xs : List NodeName) (y : NodeName) → In y (joined ts xs) → (s : NodeName) × In s xs × In y (inclusive_descendants ts s)
joined-in ts [] y i = absurd i
joined-in ts (x ∷ xs) y i = elim (In-parts y (inclusive_descendants ts x) (joined ts xs) (subst (In y) (flat_map-cons (inclusive_descendants ts) x xs) i)) [
  | inl h ↦ (x, inl refl, h)
  | inr h ↦ let w = joined-in ts xs y h in (w.0, inr w.1, w.2)
]

module _ (ts : Trees) (once : Once ts) where
  -- a child's number
  pub index-kid : (p s : NodeName) → Has ts p → (front back : List NodeName) → children_of ts p ≡ front ++ s ∷ back → index_of ts s ≡ length front
  index-kid p s h front back e =
      let i : In s (children_of ts p) = subst (In s) (sym e) (In-right s front (s ∷ back) (inl refl)) in
      let up = parent-of_child ts p s once h i in
      let apart : In s front → ⊥ = λ j. Single-apart s front (s ∷ back) (subst Single e (children-single ts p once h)) j (inl refl) in
      ap (λ o. length (items_before name_eq s (option_map_or (children_of ts) o (s ∷ [])))) up.0 ∙
      (ap (λ xs. length (items_before name_eq s xs)) e ∙ ap (length {A = NodeName}) (before-split s front back apart))

  -- and its place
  pub kid-place : (p s : NodeName) → Has ts p → (front back : List NodeName) → children_of ts p ≡ front ++ s ∷ back →
      place_of ts s ≡ place_of ts p ++ length front ∷ []
  kid-place p s h front back e =
      let up = parent-of_child ts p s once h (subst (In s) (sym e) (In-right s front (s ∷ back) (inl refl))) in
      path-child ts once s p up.1 up.0 ∙ ap (λ k. place_of ts p ++ k ∷ []) (index-kid p s h front back e)

  -- where a node other than the top stands among its parent's children
  record HasPlace (top x : NodeName) : Type 0 where
    parent : NodeName
    front : List NodeName
    back : List NodeName
    kids : children_of ts parent ≡ front ++ x ∷ back
    within : IsWithin ts top parent
    higher : inclusive_ancestors ts x ≡ x ∷ inclusive_ancestors ts parent
    place : place_of ts x ≡ place_of ts parent ++ length front ∷ []

  -- it stands under that
  abbrev under-parent : {top x : NodeName} (h : HasPlace top x) → Under ts h.parent x
  under-parent h = record { child = length h.front; rest = []; place = h.place }

  has-place : (top x : NodeName) → IsWithin ts top x → (x ≡ top → ⊥) → HasPlace top x
  has-place top x w other = by (parent_of ts x) refl
    where
      by : (o : Option NodeName) → parent_of ts x ≡ o → HasPlace top x
      by None e = absurd (within-root ts top x w other e)
      by (Some p) e =
          let kids = split_at x (children_of ts p) (child-of_parent ts x p once (stands_in ts top x w) e).1 in
          let within = within-parent ts top x p w other e in
          record {
            parent = p;
            front = items_before name_eq x (children_of ts p);
            back = items_after name_eq x (children_of ts p);
            kids = kids;
            within = within;
            higher = (above-parent ts x p once (stands_in ts top x w) e).0;
            place = kid-place p x (stands_in ts top p within) (items_before name_eq x (children_of ts p)) (items_after name_eq x (children_of ts p)) kids;
          }

  -- a parent is less deep
  shallower : (n : ℕ) (top x : NodeName) (h : HasPlace top x) → length (inclusive_ancestors ts x) ≤ suc n → length (inclusive_ancestors ts h.parent) ≤ n
  shallower n top x h le = let longer = ap (length {A = NodeName}) h.higher in omega (arith, longer, le)

  -- a node has itself above it
  deep : (top x : NodeName) → IsWithin ts top x → length (inclusive_ancestors ts x) ≤ 0 → ⊥
  deep top x w le = let long = ap (length {A = NodeName}) (above-present ts x (stands_in ts top x w)).1 in omega (arith, long, le)

  -- the place of a node in the tree of another one begins with that one's
  place-in : (n : ℕ) (top x : NodeName) → IsWithin ts top x → length (inclusive_ancestors ts x) ≤ n → (rest : List ℕ) ×
      (place_of ts x ≡ place_of ts top ++ rest)
  place-in zero top x w le = absurd (deep top x w le)
  place-in (suc n) top x w le = elim (same_or_not x top) [
    | inl same ↦ ([], ap (place_of ts) same ∙ sym (append-nil (place_of ts top)))
    | inr other ↦
        let h = has-place top x w other in
        let r = place-in n top h.parent h.within (shallower n top x h le) in (
          r.0 ++ length h.front ∷ [],
          h.place ∙ (ap (λ path. path ++ length h.front ∷ []) r.1 ∙ append_assoc (place_of ts top) r.0 (length h.front ∷ [])),
        )
  ]

  -- a node of a child's tree stands under its parent
  pub under-kid : (p s y : NodeName) (front : List NodeName) {back : List NodeName} → IsKidOf ts p s front back →
      In y (inclusive_descendants ts s) → (rest : List ℕ) × (place_of ts y ≡ place_of ts p ++ length front ∷ rest)
  under-kid p s y front {back} is i =
      let h = is.there in
      let e = is.kids in
      let at = (parent-of_child ts p s once h (subst (In s) (sym e) (In-right s front (s ∷ back) (inl refl)))).1 in
      let r = place-in (length (inclusive_ancestors ts y)) s y (record { once = once; top_stands = at; stands = Has-names (subtree ts s) y i }) (omega arith) in
      (r.0, r.1 ∙ (ap (λ path. path ++ r.0) (kid-place p s h front back e) ∙ append_assoc (place_of ts p) (length front ∷ []) r.0))

  -- so does one of the tree of a child among others, whose number is then among theirs
  pub among-kids : (p y : NodeName) (front kids : List NodeName) {back : List NodeName} → AreKidsOf ts p front kids back → In y (joined ts kids) →
      (u : Under ts p y) × length front ≤ u.child × u.child < length front + length kids
  among-kids p y front kids {back} are i =
      let s = joined-in ts kids y i in
      let first = items_before name_eq s.0 kids in
      let later = items_after name_eq s.0 kids in
      let parts = split_at s.0 kids s.1 in
      let whole : children_of ts p ≡ (front ++ first) ++ s.0 ∷ (later ++ back) =
      are.all ∙ (ap (λ xs. front ++ (xs ++ back)) parts ∙ (ap (λ xs. front ++ xs) (append_assoc first (s.0 ∷ later) back) ∙
      sym (append_assoc front first (s.0 ∷ (later ++ back))))) in
      let r = under-kid p s.0 y (front ++ first) {back = later ++ back} record { there = are.there; kids = whole } s.2 in
      let both = length-append front first in
      let longer = ap (length {A = NodeName}) parts ∙ length-append first (s.0 ∷ later) in
      (record { child = length (front ++ first); rest = r.0; place = r.1 }, omega (arith, both), omega (arith, both, longer))

  -- the places of two nodes under one part there
  beside : {p x y : NodeName} (u : Under ts p x) (v : Under ts p y) → u.child < v.child → Parted ts x y
  beside {p} u v less = record {
    common = place_of ts p;
    first = u.child;
    second = v.child;
    first_rest = u.rest;
    second_rest = v.rest;
    first_place = u.place;
    second_place = v.place;
    less = less;
  }

  -- beyond a node stands what is behind it
  beyond-parted : (n : ℕ) {top x : NodeName} (y : NodeName) → IsWithin ts top x → length (inclusive_ancestors ts x) ≤ n → In y (beyond ts top x) → Parted ts x y
  beyond-parted zero {top} {x} y w le i = absurd (deep top x w le)
  beyond-parted (suc n) {top} {x} y w le i = elim (same_or_not x top) [
    | inl same ↦ absurd (subst (In y) (ap (beyond ts top) same ∙ (top_places ts top (subst (IsWithin ts top) same w)).1) i)
    | inr other ↦
        let h = has-place top x w other in
        elim (In-parts y (joined ts h.back) (beyond ts top h.parent) (subst (In y) (child_places ts top h.parent x h.front h.back h.within h.kids).2 i)) [
          | inl j ↦
              let kids = h.kids ∙ (ap (λ xs. h.front ++ x ∷ xs) (sym (append-nil h.back)) ∙ sym (append_assoc h.front (x ∷ []) (h.back ++ []))) in
              let u = among-kids h.parent y (h.front ++ x ∷ []) h.back {back = []} record { there = stands_in ts top h.parent h.within; all = kids } j in
              let few = u.1 in
              let longer = length-append h.front (x ∷ []) in
              beside (under-parent h) u.0 (omega (arith, few, longer))
          | inr j ↦ parted-below (length h.front ∷ []) [] (beyond-parted n y h.within (shallower n top x h le) j) h.place (sym (append-nil (place_of ts y)))
        ]
  ]

  -- before a node stands what is before it, or above it
  ahead-parted : (n : ℕ) {top x : NodeName} (y : NodeName) → IsWithin ts top x → length (inclusive_ancestors ts x) ≤ n → In y (ahead_of ts top x) →
      Parted ts y x ⊎ Under ts y x
  ahead-parted zero {top} {x} y w le i = absurd (deep top x w le)
  ahead-parted (suc n) {top} {x} y w le i = elim (same_or_not x top) [
    | inl same ↦ absurd (subst (In y) (ap (ahead_of ts top) same ∙ (top_places ts top (subst (IsWithin ts top) same w)).0) i)
    | inr other ↦
        let h = has-place top x w other in
        elim (In-parts y (ahead_of ts top h.parent) (h.parent ∷ joined ts h.front)
        (subst (In y) (child_places ts top h.parent x h.front h.back h.within h.kids).1 i)) [
          | inl j ↦ elim (ahead-parted n y h.within (shallower n top x h le) j) [
            | inl k ↦ inl (parted-below [] (length h.front ∷ []) k (sym (append-nil (place_of ts y))) h.place)
            | inr k ↦ inr record {
              child = k.child;
              rest = k.rest ++ length h.front ∷ [];
              place = h.place ∙ (ap (λ path. path ++ length h.front ∷ []) k.place ∙ append_assoc (place_of ts y) (k.child ∷ k.rest) (length h.front ∷ []));
            }
          ]
          | inr j ↦ elim j [
            | inl same ↦ inr record { child = length h.front; rest = []; place = h.place ∙ ap (λ z. place_of ts z ++ length h.front ∷ []) (sym same) }
            | inr g ↦
                let u = among-kids h.parent y [] h.front {back = x ∷ h.back} record { there = stands_in ts top h.parent h.within; all = h.kids } g in
                let less = u.2 in
                inl (beside u.0 (under-parent h) (omega (arith, less)))
          ]
        ]
  ]

  -- each node behind a tree is parted from the node in it
  pub behind-apart : (top x y : NodeName) → IsWithin ts top x → In y (beyond ts top x) → Parted ts x y
  behind-apart top x y w i = beyond-parted (length (inclusive_ancestors ts x)) y w (omega arith) i

  pub ahead-apart : (top x y : NodeName) → IsWithin ts top x → In y (ahead_of ts top x) → Parted ts y x ⊎ Under ts y x
  ahead-apart top x y w i = ahead-parted (length (inclusive_ancestors ts x)) y w (omega arith) i
