use Rattle.dom_range_ops.proofs.Cited.{◌≡◌, ℕ, zero, suc, ◌<◌, ◌≤◌, ◌-◌, List, [], ◌∷◌, ◌++◌, length, map, take, drop, get_or, Some, refl, sym, ap, subst, ◌∙◌}
use Rattle.dom_range_ops.proofs.Cited.{arith, length-drop, unwrap_or, AllByRecursion, take-suc, map-append, map_push, take-append-drop, same_Some, none-some}
use Rattle.dom_range_ops.proofs.Cited.{NodeName, last_of, inclusive_ancestors, root_of, name_eq-true, Points, StandOnce, StandAlone, Has-forest, last_of-end}
use Rattle.dom_range_ops.proofs.Cited.{above-present, NamedTrees, name_at, TellApart, EndAlike, ArePaths, AreEnds, take_all}
use Rattle.dom_range_ops.proofs.pieces.paths.parted_paths.Goals as goal

-- ---- what holds of all keys of a list

-- of one of them
all-at : (P : ℕ → Type 0) (ks : List ℕ) (i : ℕ) → AllByRecursion P ks → i < length ks → P (get_or ks i 0)
all-at P [] i all l = absurd (omega (arith, l))
all-at P (k ∷ ks) zero all l = all.0
all-at P (k ∷ ks) (suc i) all l = all-at P ks i all.1 (omega (arith, l))

-- of the first of them
all-take : (P : ℕ → Type 0) (m : ℕ) (ks : List ℕ) → AllByRecursion P ks → AllByRecursion P (take m ks)
all-take P zero ks all = tt
all-take P (suc m) [] all = tt
all-take P (suc m) (k ∷ ks) all = (all.0, all-take P m ks all.1)

-- ---- last items

-- the last of the first so many
last-taken : (names : List NodeName) (ks : List ℕ) (m : ℕ) → 0 < m → m ≤ length ks →
    last_of (map (name_at names) (take m ks)) ≡ Some (name_at names (get_or ks (m - 1) 0))
last-taken names ks zero l le = absurd (omega (arith, l))
last-taken names ks (suc m) l le =
    let here : suc m - 1 ≡ m = omega arith in
    ap (λ xs. last_of (map (name_at names) xs)) (take-suc ks m 0 (omega (arith, le)))
    ∙ (ap last_of (map_push (name_at names) (take m ks) (get_or ks m 0))
    ∙ (last_of-end (map (name_at names) (take m ks)) (name_at names (get_or ks m 0)) ∙ ap (λ n. Some (name_at names (get_or ks n 0))) (sym here)))

-- ---- where the paths part

module _ (f : NamedTrees) (once : StandOnce f) (only : StandAlone f) (distinct : TellApart f.names) (points : Points) (ends : AreEnds f points)
    (first second : List ℕ) where
  abbrev above : ℕ → List NodeName
  above k = inclusive_ancestors f.trees (name_at f.names k)

  abbrev named : List ℕ → List NodeName
  named ks = map (name_at f.names) ks

  -- a list of names that begins with a node is not empty
  some-names : (ks : List ℕ) (k : ℕ) → k < length f.names → named ks ≡ above k → 0 < length ks
  some-names [] k node e = by (above-present f.trees (name_at f.names k) (Has-forest f once k node)).1
    where
      by : {x : NodeName} {xs : List NodeName} → above k ≡ x ∷ xs → 0 < 0
      by is = let off : [] ≡ _ ∷ _ = e ∙ is in cc
  some-names (j ∷ ks) k node e = omega arith

  -- the last of a node's inclusive ancestors is its root
  last-root : (ks : List ℕ) (k : ℕ) → k < length f.names → named ks ≡ above k →
      name_at f.names (get_or ks (length ks - 1) 0) ≡ root_of f.trees (name_at f.names k)
  last-root ks k node e =
      let last = last-taken f.names ks (length ks) (some-names ks k node e) (omega arith) in
      let is : last_of (above k) ≡ Some (name_at f.names (get_or ks (length ks - 1) 0)) =
      ap last_of (sym e) ∙ (ap (λ js. last_of (named js)) (sym (take_all (length ks) ks (omega arith))) ∙ last) in
      sym (ap (λ o. unwrap_or o (name_at f.names k)) is)

  paths-part : named first ≡ above points.start.0 → named second ≡ above points.end.0 → AllByRecursion (λ k. k < length f.names) first →
      AllByRecursion (λ k. k < length f.names) second
      → {m n : ℕ} → EndAlike first second m n → ArePaths f points (take m first) (take n second)
  paths-part start end start_nodes end_nodes {m} {n} a = by (drop m first) refl
    where
      -- just before the parting the keys differ, so do their names
      differ : 0 < m → 0 < n → name_at f.names (get_or first (m - 1) 0) ≡ name_at f.names (get_or second (n - 1) 0) → ⊥
      differ l k same =
          let in_first = a.first in
          let in_second = a.second in
          a.apart l k
          (distinct (get_or first (m - 1) 0) (get_or second (n - 1) 0)
          (all-at (λ j. j < length f.names) first (m - 1) start_nodes (omega (arith, l, in_first)))
          (all-at (λ j. j < length f.names) second (n - 1) end_nodes (omega (arith, k, in_second))) same)

      apart : (y : NodeName) → last_of (named (take m first)) ≡ Some y → last_of (named (take n second)) ≡ Some y → ⊥
      apart y e g = both m n a.first a.second refl refl
        where
          both : (i j : ℕ) → i ≤ length first → j ≤ length second → i ≡ m → j ≡ n → ⊥
          both zero j le ge is at = none-some y (ap (λ k. last_of (named (take k first))) is ∙ e)
          both (suc i) zero le ge is at = none-some y (ap (λ k. last_of (named (take k second))) at ∙ g)
          both (suc i) (suc j) le ge is at =
              let l : 0 < m = omega (arith, is) in
              let k : 0 < n = omega (arith, at) in
              differ l k (same_Some _ _ (sym (last-taken f.names first m l a.first) ∙ (e ∙ (sym g ∙ last-taken f.names second n k a.second))))

      split : (xs : List ℕ) (k j : ℕ) (ks : List ℕ) → drop k xs ≡ j ∷ ks → named xs ≡ named (take k xs) ++ name_at f.names j ∷ named ks
      split xs k j ks e = ap named (sym (take-append-drop k xs)) ∙
          (map-append (name_at f.names) (take k xs) (drop k xs) ∙ ap (λ js. named (take k xs) ++ named js) e)

      -- no key at all in common: but the root is
      none : drop m first ≡ [] → ⊥
      none e =
          let long = ap (length {A = ℕ}) e in
          let short = ap (length {A = ℕ}) (sym a.same ∙ e) in
          let size = length-drop m first in
          let size_too = length-drop n second in
          let le = a.first in
          let ge = a.second in
          let many = some-names first points.start.0 ends.start start in
          let more = some-names second points.end.0 ends.end end in
          let at : m ≡ length first = omega (arith, long, size, le) in
          let at_too : n ≡ length second = omega (arith, short, size_too, ge) in
          differ (omega (arith, at, many)) (omega (arith, at_too, more))
          (ap (λ k. name_at f.names (get_or first (k - 1) 0)) at
          ∙ (last-root first points.start.0 ends.start start
          ∙ (name_eq-true (root_of f.trees (name_at f.names points.start.0)) (root_of f.trees (name_at f.names points.end.0)) ends.one_root
          ∙ (sym (last-root second points.end.0 ends.end end) ∙ ap (λ k. name_at f.names (get_or second (k - 1) 0)) (sym at_too)))))

      by : (ks : List ℕ) → drop m first ≡ ks → ArePaths f points (take m first) (take n second)
      by [] e = absurd (none e)
      by (k ∷ ks) e = record {
        top = name_at f.names k;
        above = named ks;
        start = sym start ∙ split first m k ks e;
        end = sym end ∙ split second n k ks (sym a.same ∙ e);
        apart = apart;
        start_nodes = all-take (λ j. j < length f.names) m first start_nodes;
        end_nodes = all-take (λ j. j < length f.names) n second end_nodes;
      }

-- lists that are the same end alike as others do
alike : {xs ys us vs : List ℕ} {m n : ℕ} → xs ≡ us → ys ≡ vs → EndAlike xs ys m n → EndAlike us vs m n
alike {ys} {us} {m} {n} e g a = subst (λ ws. EndAlike us ws m n) g (subst (λ ws. EndAlike ws ys m n) e a)

pub returns : goal.returns
returns c =
    let f = c.args.forest.now in
    let e = c.law_nodes_stand_once.ensures in
    let points = c.args.points.now in
    let start = c.in_ok-start_path.ensures in
    let end = c.in_ok-end_path.ensures in
    subst (λ ks. ArePaths f points ks c.truncate-2.new.self.items) (sym c.truncate.ensures.items)
    (subst (λ ks. ArePaths f points (take c.parting-first.result.0 c.in_ok-start_path.start_path.items) ks) (sym c.truncate-2.ensures.items)
    (paths-part f e.once e.only e.distinct points c.requires c.in_ok-start_path.start_path.items c.in_ok-end_path.end_path.items
    start.names end.names start.nodes end.nodes (alike c.as_slice.ensures c.as_slice-2.ensures c.parting-first.ensures)))
