-- What lies between the ends of a range among the children of their lowest common ancestor.
use Rattle.dom_range_ops.proofs.Cited.{◌≡◌, ◌⊎◌, inl, inr, Bool, true, false, ◌&&◌, List, ◌∷◌, [], ◌++◌, Some, refl, sym, ap, subst, ◌∙◌, append_assoc, arith}
use Rattle.dom_range_ops.proofs.Cited.{true≢false, filter, and_parts, false_from_ne_true, le-ltb, append-nil, filter-append, NodeName, last_of, boundary_place}
use Rattle.dom_range_ops.proofs.Cited.{is_before, Range, at, is_contained, Trees, kind_of, has_data, children_of, inclusive_ancestors, inclusive_descendants}
use Rattle.dom_range_ops.proofs.Cited.{length_of, before-less, before-turned, before-same, In, In-left, In-right, In-parts, filter-none, filter-all, Has}
use Rattle.dom_range_ops.proofs.ContainedNodes.{IsRange, not-start, not-end, start-in, above-in, below-in, kid-in}
use Rattle.dom_range_ops.proofs.PieceLevels.{Level, above-start, above-end, in-front, in-back, self-in}
use Rattle.dom_range_ops.proofs.PieceParts.{Course, course, level, middle-last, kid-stands, middle-kid, is-ahead, is-behind}

-- two splits of one list: the first part of one begins that of the other
abbrev Splits : (xs ys us vs : List NodeName) → Type 0
Splits xs ys us vs = ((m : List NodeName) × (us ≡ xs ++ m) × (ys ≡ m ++ vs)) ⊎ ((z : NodeName) × In z xs × In z vs)

two-splits : (xs ys us vs : List NodeName) → xs ++ ys ≡ us ++ vs → Splits xs ys us vs
two-splits [] ys us vs e = inl (us, refl, e)
two-splits (x ∷ xs) ys [] vs e = inr (x, inl refl, subst (In x) e (inl refl))
two-splits (x ∷ xs) ys (u ∷ us) vs e = by (two-splits xs ys us vs cc) cc
  where
    by : Splits xs ys us vs → x ≡ u → Splits (x ∷ xs) ys (u ∷ us) vs
    by (inl w) same = inl (w.0, ap (λ zs. u ∷ zs) w.1 ∙ ap (λ z. z ∷ (xs ++ w.0)) (sym same), w.2)
    by (inr w) same = inr (w.0, inr w.1, w.2)

-- where the end of a range comes before its start nothing is contained
module _ (ts : Trees) (r : Range NodeName) where
  pub none-contained : is_before ts r.end r.start ≡ true → (z : NodeName) → is_contained ts r z ≡ false
  none-contained reversed z = false_from_ne_true (is_contained ts r z)
      (λ t. by (and_parts (is_before ts r.start (at z 0)) (is_before ts (at z (length_of ts z)) r.end) t))
    where
      by : (is_before ts r.start (at z 0) ≡ true) × (is_before ts (at z (length_of ts z)) r.end ≡ true) → ⊥
      by both =
          let first = boundary_place ts (at z 0) in
          let last = boundary_place ts (at z (length_of ts z)) in
          let start = boundary_place ts r.start in
          let end = boundary_place ts r.end in
          let ahead = before-less last end start both.1 (before-turned end start reversed) in
          true≢false (sym (before-less last start first ahead (before-turned start first both.0)) ∙
          (before-same ts z z (length_of ts z) 0 refl ∙ le-ltb (length_of ts z) 0 (omega arith)))

-- The inclusive ancestors of both ends part below c.
pub record PartAt (ts : Trees) (r : Range NodeName) (c : NodeName) (rest start_path end_path : List NodeName) : Type 0 where
  pub there : Has ts c
  pub start : inclusive_ancestors ts r.start.node ≡ start_path ++ c ∷ rest
  pub end : inclusive_ancestors ts r.end.node ≡ end_path ++ c ∷ rest
  pub apart : (y : NodeName) → last_of start_path ≡ Some y → last_of end_path ≡ Some y → ⊥

module _ (ts : Trees) (r : Range NodeName) (is : IsRange ts r) (c : NodeName) (rest start_path end_path : List NodeName)
    (parts : PartAt ts r c rest start_path end_path) where
  -- ---- how each end parts the children

  abbrev pub start_course : Course ts is.once c rest r.start start_path
  start_course = course ts is.once c rest r.start start_path is.start parts.start

  abbrev pub end_course : Course ts is.once c rest r.end end_path
  end_course = course ts is.once c rest r.end end_path is.end parts.end

  abbrev pub at_start : Level ts is.once c r.start
  at_start = level ts is.once c rest r.start start_path start_course

  abbrev pub at_end : Level ts is.once c r.end
  at_end = level ts is.once c rest r.end end_path end_course

  start-last : (z : NodeName) → In z at_start.middle → (last_of start_path ≡ Some z) × In r.start.node (inclusive_descendants ts z)
  start-last z i = middle-last ts is.once c rest r.start start_path start_course z i

  end-last : (z : NodeName) → In z at_end.middle → (last_of end_path ≡ Some z) × In r.end.node (inclusive_descendants ts z)
  end-last z i = middle-last ts is.once c rest r.end end_path end_course z i

  -- what is in the tree of a child is of the tree of the range
  pub below-leaves : (y : NodeName) → In y (children_of ts c) → (x : NodeName) → In x (inclusive_descendants ts y) →
      has_data (kind_of ts x) ≡ true → children_of ts x ≡ []
  below-leaves y among x i =
      let above = subst (In c) (sym parts.start) (In-right c start_path (c ∷ rest) (inl refl)) in
      let top = (above-in ts r is r.start.node c (start-in ts r is) above).0 in
      is.leaves x (below-in ts r is y x (below-in ts r is c y top (kid-in ts r is c y parts.there among).0) i)

  -- ---- the children between

  -- the children between the two ends, where the end comes behind the start
  pub record Follows : Type 0 where
    pub between : List NodeName
    pub front : at_end.front ≡ (at_start.front ++ at_start.middle) ++ between
    pub back : at_start.back ≡ between ++ (at_end.middle ++ at_end.back)

  pub follows : is_before ts r.end r.start ≡ false → Follows
  follows ordered =
      by (two-splits (s.front ++ s.middle) s.back e.front (e.middle ++ e.back) (append_assoc s.front s.middle s.back ∙ (sym s.kids ∙ e.kids)))
    where
      s : Level ts is.once c r.start
      s = at_start

      e : Level ts is.once c r.end
      e = at_end

      turned : is_before ts r.end r.start ≡ true → ⊥
      turned t = true≢false (sym t ∙ ordered)

      overlap : (z : NodeName) → In z s.front ⊎ In z s.middle → In z e.middle ⊎ In z e.back → ⊥
      overlap z (inl i) (inl j) = turned ((in-front ts is.once c parts.there r.start s z r.end.node i (end-last z j).1).before r.end.offset)
      overlap z (inl i) (inr j) =
          turned (before-less (boundary_place ts r.end) (boundary_place ts (at z 0)) (boundary_place ts r.start)
          ((is-behind ts is.once c rest parts.there r.end e z j).after 0) ((is-ahead ts is.once c rest parts.there r.start s z i).apart 0))
      overlap z (inr i) (inl j) = parts.apart z (start-last z i).0 (end-last z j).0
      overlap z (inr i) (inr j) = turned ((in-back ts is.once c parts.there r.end e z r.start.node j (start-last z i).1).after r.start.offset)

      by : Splits (s.front ++ s.middle) s.back e.front (e.middle ++ e.back) → Follows
      by (inl w) = record { between = w.0; front = w.1; back = w.2 }
      by (inr w) = absurd (overlap w.0 (In-parts w.0 s.front s.middle w.1) (In-parts w.0 e.middle e.back w.2))

  -- they are those that are contained
  pub between-contained : (o : Follows) → filter (is_contained ts r) (children_of ts c) ≡ o.between
  between-contained o =
      ap (filter p) (s.kids ∙ (sym (append_assoc s.front s.middle s.back) ∙ ap (λ xs. (s.front ++ s.middle) ++ xs) o.back))
      ∙ (filter-append p (s.front ++ s.middle) (o.between ++ (e.middle ++ e.back))
      ∙ (ap (λ xs. xs ++ filter p (o.between ++ (e.middle ++ e.back))) (filter-none p (s.front ++ s.middle) (λ z i. first z (In-parts z s.front s.middle i)))
      ∙ (filter-append p o.between (e.middle ++ e.back)
      ∙ (ap (λ xs. filter p o.between ++ xs) (filter-none p (e.middle ++ e.back) (λ z i. later z (In-parts z e.middle e.back i)))
      ∙ (append-nil (filter p o.between) ∙ filter-all p o.between among)))))
    where
      p : NodeName → Bool
      p = is_contained ts r

      s : Level ts is.once c r.start
      s = at_start

      e : Level ts is.once c r.end
      e = at_end

      stands : (z : NodeName) → In z (children_of ts c) → Has ts z
      stands z i = kid-stands ts is.once c rest parts.there z i

      first : (z : NodeName) → In z s.front ⊎ In z s.middle → p z ≡ false
      first z (inl i) = not-start ts r z ((is-ahead ts is.once c rest parts.there r.start s z i).apart 0)
      first z (inr i) = not-start ts r z
          (above-start ts is.once r.start z (stands z (middle-kid ts is.once c rest parts.there r.start s z i)) (start-last z i).1)

      later : (z : NodeName) → In z e.middle ⊎ In z e.back → p z ≡ false
      later z (inl i) =
          let kid = middle-kid ts is.once c rest parts.there r.end e z i in
          not-end ts r z (above-end ts is.once r.end is.fits z (below-leaves z kid z (self-in ts is.once z (stands z kid))) (stands z kid) (end-last z i).1)
      later z (inr i) = not-end ts r z ((is-behind ts is.once c rest parts.there r.end e z i).apart (length_of ts z))

      among : (z : NodeName) → In z o.between → p z ≡ true
      among z i =
          let after = (is-behind ts is.once c rest parts.there r.start s z (subst (In z) (sym o.back) (In-left z o.between (e.middle ++ e.back) i))).after 0 in
          let before = (is-ahead ts is.once c rest parts.there r.end e z
          (subst (In z) (sym o.front) (In-right z (s.front ++ s.middle) o.between i))).before (length_of ts z) in
          ap (λ b. b && is_before ts (at z (length_of ts z)) r.end) after ∙ before
