-- A rule that rewrites one owner's boundary points, over the lists of all owners: by names the owner's ranges are rewritten,
-- the others' stay, and all ends stay at nodes of their owners.
use Rattle.dom_mutation.proofs.Cited.{◌≡◌, ◌≢◌, ℕ, zero, suc, List, [], ◌∷◌, length, Option, Some, None, option_map, refl, sym, ap, subst, ◌∙◌, inl, inr}
use Rattle.dom_mutation.proofs.Cited.{cases_Bool, length-map, same_Some, NodeName, Owner, owner_eq, Boundary, Range, from_to, map_ends, owner_eq-true}
use Rattle.dom_mutation.proofs.Cited.{owner_eq-false, StandAtNodes, IsNamedRule, KeepsNodes, named_ends_by, IsAtNode, named_boundary, named_range}
use Rattle.dom_mutation.proofs.Cited.{named_ranges, RangeList, RangeLists, EachRange, BothEnds, ends_by, ranges_of, cons_same, EachRange-ends, EachRange-weaker}
use Rattle.dom_mutation.proofs.Cited.{IsOwnPoint, AreOwnRanges, IsRuleOf}
use Rattle.dom_ranges.specs.Definitions.{Fits}

-- ---- lists

-- two facts of each end
pub each_both : (P Q : Boundary ℕ → Type 0) (rs : RangeList) → EachRange (BothEnds P) rs → EachRange (BothEnds Q) rs → EachRange (BothEnds (λ b. P b × Q b)) rs
each_both P Q rs h g k r e = let p = h k r e in let q = g k r e in ((p.0, q.0), (p.1, q.1))

-- ends at an owner's nodes are at nodes
pub own_at_nodes : (names : List NodeName) (t : RangeLists) → AreOwnRanges names t → (o : Owner) → StandAtNodes names (ranges_of t o)
own_at_nodes names t own o = EachRange-weaker (IsOwnPoint names o) (IsAtNode names) (λ b h. h.node) (ranges_of t o) (own o)

-- a rule that leaves each end leaves the ranges
pub stay_where : (f : Boundary ℕ → Boundary ℕ) (rs : RangeList) → EachRange (BothEnds (λ b. f b ≡ b)) rs → ends_by f rs ≡ rs
stay_where f [] same = refl
stay_where f (None ∷ rs) same = ap (λ zs. None ∷ zs) (stay_where f rs (λ k r e. same (suc k) r e))
stay_where f (Some r ∷ rs) same =
    let here = same 0 r refl in
    cons_same (Some (map_ends f r)) (Some r) (ends_by f rs) rs
    (ap (λ b. Some (from_to b (f r.end))) here.0 ∙ ap (λ b. Some (from_to r.start b)) here.1) (stay_where f rs (λ k s e. same (suc k) s e))

-- ranges whose ends a rule leaves are left
unmoved : (names : List NodeName) {o : Owner} (q : Owner) → q ≢ o → {g : Boundary NodeName → Boundary NodeName} → IsRuleOf o g → (rs : RangeList) →
    EachRange (BothEnds (IsOwnPoint names q)) rs
    → named_ends_by g (named_ranges names rs) ≡ named_ranges names rs
unmoved names q other of [] own = refl
unmoved names q other of (None ∷ rs) own = ap (λ zs. None ∷ zs) (unmoved names q other of rs (λ k r e. own (suc k) r e))
unmoved names q other {g} of (Some r ∷ rs) own =
    let here = own 0 r refl in
    let left : (b : Boundary ℕ) → IsOwnPoint names q b → g (named_boundary names b) ≡ named_boundary names b =
    λ b h. of.others (named_boundary names b) (λ e. other (sym h.owner ∙ e)) in
    cons_same (Some (map_ends g (named_range names r))) (Some (named_range names r)) (named_ends_by g (named_ranges names rs)) (named_ranges names rs)
    (ap (λ b. Some (from_to b (g (named_boundary names r.end)))) (left r.start here.0) ∙ ap (λ b. Some (from_to (named_boundary names r.start) b))
    (left r.end here.1))
    (unmoved names q other of rs (λ k s e. own (suc k) s e))

-- rules that agree at an owner's points do the same to its ranges
pub agreed : (names : List NodeName) {o : Owner} {g h : Boundary NodeName → Boundary NodeName} →
    ((b : Boundary NodeName) → b.node.owner ≡ o → g b ≡ h b) → (rs : RangeList) → EachRange (BothEnds (IsOwnPoint names o)) rs
    → named_ends_by g (named_ranges names rs) ≡ named_ends_by h (named_ranges names rs)
agreed names same [] own = refl
agreed names same (None ∷ rs) own = ap (λ zs. None ∷ zs) (agreed names same rs (λ k r e. own (suc k) r e))
agreed names {g} {h} same (Some r ∷ rs) own =
    let here = own 0 r refl in
    cons_same (Some (map_ends g (named_range names r))) (Some (map_ends h (named_range names r))) (named_ends_by g (named_ranges names rs))
    (named_ends_by h (named_ranges names rs))
    (ap (λ b. Some (from_to b (g (named_boundary names r.end)))) (same (named_boundary names r.start) here.0.owner) ∙
    ap (λ b. Some (from_to (h (named_boundary names r.start)) b)) (same (named_boundary names r.end) here.1.owner))
    (agreed names same rs (λ k s e. own (suc k) s e))

-- ---- one boundary point

module _ (names : List NodeName) (f : Boundary ℕ → Boundary ℕ) (g : Boundary NodeName → Boundary NodeName) (rule : IsNamedRule names f g)
    (keeps : KeepsNodes names f) where
  -- a list of one range, with both ends at a point
  abbrev alone : Boundary ℕ → RangeList
  alone b = Some (from_to b b) ∷ []

  alone_at : (b : Boundary ℕ) → IsAtNode names b → StandAtNodes names (alone b)
  alone_at b h zero r e = let is = same_Some _ _ (same_Some _ _ e) in subst (BothEnds (IsAtNode names)) is (h, h)
  alone_at b h (suc k) r e = cc

  point_kept : (b : Boundary ℕ) → IsAtNode names b → IsAtNode names (f b)
  point_kept b h = (keeps (alone b) (alone_at b h) 0 (from_to (f b) (f b)) refl).0

  start_of : List (Option (Range NodeName)) → Boundary NodeName → Boundary NodeName
  start_of [] c = c
  start_of (None ∷ rs) c = c
  start_of (Some r ∷ rs) c = r.start

  pub point_named : (b : Boundary ℕ) → IsAtNode names b → named_boundary names (f b) ≡ g (named_boundary names b)
  unfolding start_of
  point_named b h = ap (λ rs. start_of rs (named_boundary names b)) (rule (alone b) (alone_at b h))

  -- an owner's point stays one
  pub own_kept : (o q : Owner) → IsRuleOf o g → (b : Boundary ℕ) → IsOwnPoint names q b → Fits (f b) → IsOwnPoint names q (f b)
  own_kept o q of b h fits = record {
    node = point_kept b h.node;
    owner = ap (λ (c : Boundary NodeName). c.node.owner) (point_named b h.node) ∙ elim (cases_Bool (owner_eq q o)) [
      | inl e ↦ let same = owner_eq-true q o e in of.stays (named_boundary names b) (h.owner ∙ same) ∙ sym same
      | inr e ↦ ap (λ (c : Boundary NodeName). c.node.owner) (of.others (named_boundary names b) (λ is. owner_eq-false q o e (sym h.owner ∙ is))) ∙ h.owner
    ];
    fits = fits;
  }

-- ---- the lists of all owners

module _ (names : List NodeName) (o : Owner) (f : Boundary ℕ → Boundary ℕ) (g : Boundary NodeName → Boundary NodeName)
    (rule : IsNamedRule names f g) (keeps : KeepsNodes names f) (of : IsRuleOf o g)
    (t u : RangeLists) (own : AreOwnRanges names t) (moved : (q : Owner) → ranges_of u q ≡ ends_by f (ranges_of t q)) where
  -- the owner's ranges are rewritten
  pub named_own : named_ranges names (ranges_of u o) ≡ named_ends_by g (named_ranges names (ranges_of t o))
  named_own = ap (named_ranges names) (moved o) ∙ rule (ranges_of t o) (own_at_nodes names t own o)

  -- the others' stay
  pub named_others : (q : Owner) → q ≢ o → named_ranges names (ranges_of u q) ≡ named_ranges names (ranges_of t q)
  named_others q other = ap (named_ranges names) (moved q) ∙
      (rule (ranges_of t q) (own_at_nodes names t own q) ∙ unmoved names q other of (ranges_of t q) (own q))

  -- all ends stay at nodes of their owners
  pub own_moved : ((q : Owner) → EachRange (BothEnds (λ b. Fits (f b))) (ranges_of t q)) → AreOwnRanges names u
  own_moved fits q =
      subst (EachRange (BothEnds (IsOwnPoint names q))) (sym (moved q))
      (EachRange-ends (λ b. IsOwnPoint names q b × Fits (f b)) (IsOwnPoint names q) f (λ b h. own_kept names f g rule keeps o q of b h.0 h.1) (ranges_of t q)
      (each_both (IsOwnPoint names q) (λ b. Fits (f b)) (ranges_of t q) (own q) (fits q)))

  -- and there are as many
  pub as_many : (q : Owner) → length (ranges_of u q) ≡ length (ranges_of t q)
  as_many q = ap (length {A = Option (Range ℕ)}) (moved q) ∙ length-map (ranges_of t q) (option_map (map_ends f))
