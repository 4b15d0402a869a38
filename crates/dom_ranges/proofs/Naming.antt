-- The laws of the table read in names.
use Rattle.dom_ranges.proofs.Cited.{◌≡◌, inl, inr, ℕ, zero, suc, ◌+◌, ◌-◌, ◌<◌, Bool, true, false, not, cond, List, [], ◌∷◌, ◌++◌, length, eqb, nat_lt, nat_le}
use Rattle.dom_ranges.proofs.Cited.{Option, Some, None, refl, sym, ap, subst, ◌∙◌, arith, true≢false, slice_get, slice_set, ◌&&◌, ◌||◌, ◌==◌, option_map}
use Rattle.dom_ranges.proofs.Cited.{option_flatten, cases_Bool, eqb-true, eq-eqb, map-set, map-append, length-append, same_Some, none-some, slice_get-map}
use Rattle.dom_ranges.proofs.Cited.{Owner, NodeName, name_eq, owner_eq, name_eq-same, owner_eq-true, name_eq-other, Boundary, with_start, with_end, Range, at}
use Rattle.dom_ranges.proofs.Cited.{from_to, map_ends, boundary_eq, after_insert, after_removal, after_replace_data, after_split, after_join}
use Rattle.dom_ranges.proofs.Cited.{is_inclusive_ancestor, NamedTrees, name_at, TellApart, BothEnds, CollapsedNamed, EachRange, end_set, EndNamed, ends_by}
use Rattle.dom_ranges.proofs.Cited.{GrownNamed, have_one_root, InsertNamed, is_inside, is_key_before, IsAtNode, IsNamedRule, JoinNamed, MadeNamed}
use Rattle.dom_ranges.proofs.Cited.{named_boundary, named_ends_by, named_range, named_ranges, range_in, RangeList, RangeLists, ranges_of, RemovalNamed}
use Rattle.dom_ranges.proofs.Cited.{RemovedNamed, ReplaceDataNamed, RewrittenNamed, SplitNamed, StandAtNodes, start_set, StartNamed, with_named, with_ranges}
use Rattle.dom_ranges.proofs.Lists.{cons_same}

-- ---- lists of ranges, each rewritten

-- the item under a number was rewritten
item-of_map : {X Y : Type 0} (f : X → Y) (o : Option (Option X)) (y : Y) → option_map (option_map f) o ≡ Some (Some y) → (x : X) ×
    (o ≡ Some (Some x)) × (y ≡ f x)
item-of_map f None y e = absurd (none-some _ e)
item-of_map f (Some None) y e = absurd (none-some _ (same_Some _ _ e))
item-of_map f (Some (Some x)) y e = (x, refl, sym (same_Some _ _ (same_Some _ _ e)))

-- a fact of each range carries over to the rewritten ones
pub EachRange-ends : (P Q : Boundary ℕ → Type 0) (f : Boundary ℕ → Boundary ℕ) → ((b : Boundary ℕ) → P b → Q (f b)) → (rs : RangeList) →
    EachRange (BothEnds P) rs → EachRange (BothEnds Q) (ends_by f rs)
EachRange-ends P Q f step rs each k r e =
    let w = item-of_map (map_ends f) (slice_get rs k) r (sym (slice_get-map (option_map (map_ends f)) rs k) ∙ e) in
    let was = each k w.0 w.1 in
    subst (BothEnds Q) (sym w.2) (step w.0.start was.0, step w.0.end was.1)

-- a rule that agrees at each end with one over names
named-ends : (names : List NodeName) (f : Boundary ℕ → Boundary ℕ) (g : Boundary NodeName → Boundary NodeName) →
    ((b : Boundary ℕ) → IsAtNode names b → named_boundary names (f b) ≡ g (named_boundary names b)) → IsNamedRule names f g
named-ends names f g law [] each = refl
named-ends names f g law (None ∷ rs) each = ap (λ zs. None ∷ zs) (named-ends names f g law rs (λ k r e. each (suc k) r e))
named-ends names f g law (Some r ∷ rs) each =
    let here = each 0 r refl in
    let both : named_range names (map_ends f r) ≡ map_ends g (named_range names r) =
    ap (λ b. from_to b (named_boundary names (f r.end))) (law r.start here.0) ∙ ap (from_to (g (named_boundary names r.start))) (law r.end here.1) in
    cons_same (Some (named_range names (map_ends f r))) (Some (map_ends g (named_range names r))) (named_ranges names (ends_by f rs))
    (named_ends_by g (named_ranges names rs))
    (ap Some both) (named-ends names f g law rs (λ k s e. each (suc k) s e))

-- ---- one boundary point

module _ (names : List NodeName) where
  -- a choice, named
  named-if : (c d : Bool) → c ≡ d → (x y : Boundary ℕ) → named_boundary names (cond c x y) ≡ cond d (named_boundary names x) (named_boundary names y)
  named-if true d e x y = ap (λ t. cond t (named_boundary names x) (named_boundary names y)) e
  named-if false d e x y = ap (λ t. cond t (named_boundary names x) (named_boundary names y)) e

  -- a choice among two points at nodes
  at-if : (c : Bool) (x y : Boundary ℕ) → IsAtNode names x → IsAtNode names y → IsAtNode names (cond c x y)
  at-if true x y p q = p
  at-if false x y p q = q

  -- the tests of keys and of names agree
  pub same-test : TellApart names → (j k : ℕ) → j < length names → k < length names → eqb j k ≡ name_eq (name_at names j) (name_at names k)
  same-test apart j k p q = elim (cases_Bool (eqb j k)) [
    | inl e ↦ e ∙ sym (ap (λ i. name_eq (name_at names j) (name_at names i)) (sym (eqb-true j k e)) ∙ name_eq-same (name_at names j))
    | inr e ↦ e ∙ sym (name_eq-other (name_at names j) (name_at names k) (λ same. both e (eq-eqb j k (apart j k p q same))))
  ]
    where
      both : eqb j k ≡ false → eqb j k ≡ true → ⊥
      both e f = true≢false (sym f ∙ e)

-- ---- the rules

pub insert-named : InsertNamed
insert-named names apart parent index count node = (
  named-ends names (after_insert eqb parent index count) (after_insert name_eq (name_at names parent) index count)
      (λ b p. named-if names (eqb b.node parent && nat_lt index b.offset) _
      (ap (λ t. t && nat_lt index b.offset) (same-test names apart b.node parent p node)) (at parent (b.offset + count)) b),
  EachRange-ends (IsAtNode names) (IsAtNode names) (after_insert eqb parent index count)
      (λ b p. at-if names (eqb b.node parent && nat_lt index b.offset) (at parent (b.offset + count)) b node p),
)

pub removal-named : RemovalNamed
removal-named f apart node parent index there = (
  named-ends f.names (after_removal eqb (is_inside f node) parent index)
      (after_removal name_eq (is_inclusive_ancestor f.trees (name_at f.names node)) (name_at f.names parent) index)
      (λ b p.
      let inner = cond (eqb b.node parent && nat_lt index b.offset) (at parent (b.offset - 1)) b in
      named-if f.names (is_inside f node b.node) (is_inside f node b.node) refl (at parent index) inner
      ∙ ap (cond (is_inside f node b.node) (at (name_at f.names parent) index))
      (named-if f.names (eqb b.node parent && nat_lt index b.offset) _
      (ap (λ t. t && nat_lt index b.offset) (same-test f.names apart b.node parent p there)) (at parent (b.offset - 1)) b)),
  EachRange-ends (IsAtNode f.names) (IsAtNode f.names) (after_removal eqb (is_inside f node) parent index)
      (λ b p. at-if f.names (is_inside f node b.node) (at parent index) _ there
      (at-if f.names (eqb b.node parent && nat_lt index b.offset) (at parent (b.offset - 1)) b there p)),
)

pub replace_data-named : ReplaceDataNamed
replace_data-named names apart node offset count size there = (
  named-ends names (after_replace_data eqb node offset count size) (after_replace_data name_eq (name_at names node) offset count size)
      (λ b p.
      let inner = cond (nat_le b.offset (offset + count)) (at node offset) (at node (b.offset + size - count)) in
      let test = λ (t : Bool). not t || nat_le b.offset offset in
      let same = same-test names apart b.node node p there in
      named-if names (test (eqb b.node node)) (test (name_eq (name_at names b.node) (name_at names node))) (ap test same) b inner
      ∙ ap (cond (test (name_eq (name_at names b.node) (name_at names node))) (named_boundary names b))
      (named-if names (nat_le b.offset (offset + count)) (nat_le b.offset (offset + count)) refl (at node offset) (at node (b.offset + size - count)))),
  EachRange-ends (IsAtNode names) (IsAtNode names) (after_replace_data eqb node offset count size)
      (λ b p. at-if names (not (eqb b.node node) || nat_le b.offset offset) b _ p
      (at-if names (nat_le b.offset (offset + count)) (at node offset) (at node (b.offset + size - count)) there there)),
)

pub split-named : SplitNamed
split-named names apart node offset new parent index there fresh above = (
  named-ends names (after_split eqb node offset new parent index)
      (after_split name_eq (name_at names node) offset (name_at names new) (name_at names parent) index)
      (λ b p.
      let inner = cond (boundary_eq eqb b (at parent (index + 1))) (at parent (index + 2)) b in
      let test = λ (t : Bool). t && nat_lt offset b.offset in
      let same = same-test names apart b.node node p there in
      named-if names (test (eqb b.node node)) (test (name_eq (name_at names b.node) (name_at names node))) (ap test same) (at new (b.offset - offset)) inner
      ∙ ap (cond (test (name_eq (name_at names b.node) (name_at names node))) (at (name_at names new) (b.offset - offset)))
      (named-if names (boundary_eq eqb b (at parent (index + 1))) (boundary_eq name_eq (named_boundary names b) (at (name_at names parent) (index + 1)))
      (ap (λ t. t && (b.offset == (index + 1))) (same-test names apart b.node parent p above)) (at parent (index + 2)) b)),
  EachRange-ends (IsAtNode names) (IsAtNode names) (after_split eqb node offset new parent index)
      (λ b p. at-if names (eqb b.node node && nat_lt offset b.offset) (at new (b.offset - offset)) _ fresh
      (at-if names (boundary_eq eqb b (at parent (index + 1))) (at parent (index + 2)) b above p)),
)

pub join-named : JoinNamed
join-named names apart first size next parent index there after above = (
  named-ends names (after_join eqb first size next parent index)
      (after_join name_eq (name_at names first) size (name_at names next) (name_at names parent) index)
      (λ b p.
      let inner = cond (boundary_eq eqb b (at parent index)) (at first size) b in
      let same = same-test names apart b.node next p after in
      named-if names (eqb b.node next) (name_eq (name_at names b.node) (name_at names next)) same (at first (b.offset + size)) inner
      ∙ ap (cond (name_eq (name_at names b.node) (name_at names next)) (at (name_at names first) (b.offset + size)))
      (named-if names (boundary_eq eqb b (at parent index)) (boundary_eq name_eq (named_boundary names b) (at (name_at names parent) index))
      (ap (λ t. t && (b.offset == index)) (same-test names apart b.node parent p above)) (at first size) b)),
  EachRange-ends (IsAtNode names) (IsAtNode names) (after_join eqb first size next parent index)
      (λ b p. at-if names (eqb b.node next) (at first (b.offset + size)) _ there (at-if names (boundary_eq eqb b (at parent index)) (at first size) b there p)),
)

-- a choice of ranges, named
named-choice : (names : List NodeName) (c : Bool) (x y : Range ℕ) → named_range names (cond c x y) ≡ cond c (named_range names x) (named_range names y)
named-choice names true x y = refl
named-choice names false x y = refl

pub start-named : StartNamed
start-named f b r = named-choice f.names (have_one_root f b r.end && not (is_key_before f r.end b)) (from_to b r.end) (from_to b b)

pub end-named : EndNamed
end-named f b r = named-choice f.names (have_one_root f b r.start && not (is_key_before f b r.start)) (from_to r.start b) (from_to b b)

-- a name keeps its key where others come behind it
name-kept : (names more : List NodeName) (k : ℕ) → k < length names → name_at (names ++ more) k ≡ name_at names k
name-kept [] more k l = absurd (omega (arith, l))
name-kept (x ∷ names) more zero l = refl
name-kept (x ∷ names) more (suc k) l = name-kept names more k (omega (arith, l))

pub grown-named : GrownNamed
grown-named names more rs each = (by rs each, λ k r e. let p = each k r e in (longer r.start p.0, longer r.end p.1))
  where
    longer : (b : Boundary ℕ) → IsAtNode names b → IsAtNode (names ++ more) b
    longer b p = omega (arith, length-append names more, p)

    point : (b : Boundary ℕ) → IsAtNode names b → named_boundary (names ++ more) b ≡ named_boundary names b
    point b p = ap (λ (x : NodeName). at x b.offset) (name-kept names more b.node p)

    by : (ss : RangeList) → StandAtNodes names ss → named_ranges (names ++ more) ss ≡ named_ranges names ss
    by [] h = refl
    by (None ∷ ss) h = ap (λ zs. None ∷ zs) (by ss (λ k r e. h (suc k) r e))
    by (Some r ∷ ss) h =
        let p = h 0 r refl in
        cons_same (Some (named_range (names ++ more) r)) (Some (named_range names r)) (named_ranges (names ++ more) ss) (named_ranges names ss)
        (ap (λ b. Some (from_to b (named_boundary (names ++ more) r.end))) (point r.start p.0) ∙
        ap (λ b. Some (from_to (named_boundary names r.start) b)) (point r.end p.1))
        (by ss (λ k s e. h (suc k) s e))

-- ---- one range of a list

pub made-named : MadeNamed
made-named names rs node = map-append (option_map (named_range names)) rs (Some (from_to (at node 0) (at node 0)) ∷ [])

pub removed-named : RemovedNamed
removed-named names rs k = map-set (option_map (named_range names)) rs k None

pub rewritten-named : RewrittenNamed
rewritten-named names f g law rs k =
    map-set (option_map (named_range names)) rs k (option_map f (range_in rs k))
    ∙ ap (slice_set (named_ranges names rs) k)
    (one (slice_get rs k) ∙ ap (λ r. option_map g (option_flatten r)) (sym (slice_get-map (option_map (named_range names)) rs k)))
  where
    one : (r : Option (Option (Range ℕ))) →
        option_map (named_range names) (option_map f (option_flatten r)) ≡ option_map g
        (option_flatten (option_map (option_map (named_range names)) r))
    one None = refl
    one (Some None) = refl
    one (Some (Some r)) = ap Some (law r)

pub collapsed-named : CollapsedNamed
collapsed-named names true r = refl
collapsed-named names false r = refl

-- a rule for ranges of keys and one for ranges of names that agree
pub record RangeRule (names : List NodeName) : Type 0 where
  pub keyed : Range ℕ → Range ℕ
  pub named : Range NodeName → Range NodeName
  pub agrees : (r : Range ℕ) → named_range names (keyed r) ≡ named (named_range names r)

-- the table with one range rewritten, named
pub with-named : (names : List NodeName) (t : RangeLists) (owner : Owner) (k : ℕ) (rule : RangeRule names) (o : Owner) →
    named_ranges names (with_ranges t owner (slice_set (ranges_of t owner) k (option_map rule.keyed (range_in (ranges_of t owner) k))) o) ≡
    with_named names t owner k rule.named o
with-named names t owner k rule o = by (owner_eq owner o) refl
  where
    by : (b : Bool) → owner_eq owner o ≡ b
        → named_ranges names (cond b (slice_set (ranges_of t owner) k (option_map rule.keyed (range_in (ranges_of t owner) k))) (ranges_of t o))
        ≡ cond b (slice_set (named_ranges names (ranges_of t o)) k
        (option_map rule.named (option_flatten (slice_get (named_ranges names (ranges_of t o)) k)))) (named_ranges names (ranges_of t o))
    by true e =
        rewritten-named names rule.keyed rule.named rule.agrees (ranges_of t owner) k
        ∙ ap (λ (p : Owner). slice_set (named_ranges names (ranges_of t p)) k
        (option_map rule.named (option_flatten (slice_get (named_ranges names (ranges_of t p)) k)))) (owner_eq-true owner o e)
    by false e = refl

-- it is, where a range that is there was rewritten
pub set-named : {names : List NodeName} (t : RangeLists) (owner : Owner) (k : ℕ) (rule : RangeRule names) {now : RangeList} {r s : Range ℕ} (o : Owner) →
    (now ≡ with_ranges t owner (slice_set (ranges_of t owner) k (Some s)) o) × (s ≡ rule.keyed r) × (range_in (ranges_of t owner) k ≡ Some r)
    → named_ranges names now ≡ with_named names t owner k rule.named o
set-named {names} t owner k rule o is =
    ap (named_ranges names)
    (is.0 ∙ ap (λ (x : Option (Range ℕ)). with_ranges t owner (slice_set (ranges_of t owner) k x) o) (ap Some is.1 ∙ ap (option_map rule.keyed) (sym is.2)))
    ∙ with-named names t owner k rule o

-- the rules by which a start and an end are set
abbrev pub start-rule : (f : NamedTrees) → Boundary ℕ → RangeRule f.names
start-rule f b = record { keyed = start_set f b; named = with_start f.trees (named_boundary f.names b); agrees = start-named f b }

abbrev pub end-rule : (f : NamedTrees) → Boundary ℕ → RangeRule f.names
end-rule f b = record { keyed = end_set f b; named = with_end f.trees (named_boundary f.names b); agrees = end-named f b }
