-- The order of boundary points in the list of ends, and the tests by which it is searched.
use Rattle.dom_ranges.proofs.Cited.{◌≡◌, inl, inr, ℕ, ◌≤◌, Bool, true, false, List, get_or, eqb, ltb, leb, sym, ap, subst, arith, ◌&&◌, ◌||◌, IsPartitionedBy}
use Rattle.dom_ranges.proofs.Cited.{cases_Bool, or_cases, or_parts, and_parts, and_cases, eqb-true, eqb-false, ltb-true, ltb-false, leb-true, leb-false}
use Rattle.dom_ranges.proofs.Cited.{Boundary, AtMost, AtMostBut, IsOrdered, IsSortedByNode, IsSortedByPoint, LessThan, point_of, RangeEnd}

-- whether a listed end is at a boundary point or before it
abbrev pub is_at_most : Boundary ℕ → RangeEnd → Bool
is_at_most b e = ltb b.node e.node || (eqb e.node b.node && leb e.offset b.offset)

-- whether it is before it
abbrev pub is_less : Boundary ℕ → RangeEnd → Bool
is_less b e = ltb b.node e.node || (eqb e.node b.node && ltb e.offset b.offset)

-- ---- what the tests say

-- a test of two numbers, and of more where they are the same
lex-true : {a c : ℕ} {t : Bool} → ltb c a || (eqb a c && t) ≡ true → (c ≤ a) × (a ≡ c → t ≡ true)
lex-true {a} {c} {t} h = elim (or_cases (ltb c a) (eqb a c && t) h) [
  | inl f ↦ (omega (arith, ltb-true c a f), λ s. absurd (omega (arith, ltb-true c a f, s)))
  | inr f ↦ let same = and_parts (eqb a c) t f in (omega (arith, eqb-true a c same.0), λ _. same.1)
]

lex-false : {a c : ℕ} {t : Bool} → ltb c a || (eqb a c && t) ≡ false → (a ≤ c) × (c ≡ a → t ≡ false)
lex-false {a} {c} {t} h =
    let off = or_parts (ltb c a) (eqb a c && t) h in
    (ltb-false c a off.0, λ s. elim (and_cases (eqb a c) t off.1) [ inl f ↦ absurd (eqb-false a c f (sym s)) | inr f ↦ f ])

pub at_most-true : (b : Boundary ℕ) (e : RangeEnd) → is_at_most b e ≡ true → AtMost (point_of e) b
at_most-true b e h = let t = lex-true h in (t.0, λ s. leb-true e.offset b.offset (t.1 s))

pub at_most-false : (b : Boundary ℕ) (e : RangeEnd) → is_at_most b e ≡ false → LessThan b (point_of e)
at_most-false b e h = let t = lex-false h in (t.0, λ s. leb-false e.offset b.offset (t.1 s))

pub less-true : (b : Boundary ℕ) (e : RangeEnd) → is_less b e ≡ true → LessThan (point_of e) b
less-true b e h = let t = lex-true h in (t.0, λ s. ltb-true e.offset b.offset (t.1 s))

pub less-false : (b : Boundary ℕ) (e : RangeEnd) → is_less b e ≡ false → AtMost b (point_of e)
less-false b e h = let t = lex-false h in (t.0, λ s. ltb-false e.offset b.offset (t.1 s))

-- ---- sorted lists

-- boundary points do not come one after the other in a circle
circle : (b c d : Boundary ℕ) → AtMost b c → AtMost c d → LessThan d b → ⊥
circle b c d f g h =
    let same : b.node ≡ c.node = omega (arith, f.0, g.0, h.0) in
    let same_too : c.node ≡ d.node = omega (arith, f.0, g.0, h.0) in
    omega (arith, f.1 same, g.1 same_too, h.1 (omega (arith, same, same_too)))

-- a test parts a sorted list if it holds of what comes before an end of which it holds
parted : (R : Boundary ℕ → Boundary ℕ → Type 0) (p : RangeEnd → Bool) (es : List RangeEnd) → IsOrdered R es →
    ((x y : RangeEnd) → R (point_of x) (point_of y) → p y ≡ true → p x ≡ false → ⊥) → IsPartitionedBy p es
parted R p es sorted apart i j d le l e = elim (cases_Bool (p (get_or es i d))) [
  | inl f ↦ f
  | inr f ↦ absurd (apart (get_or es i d) (get_or es j d) (sorted i j d le l) e f)
]

-- so the two tests do
pub IsPartitionedBy-at_most : (b : Boundary ℕ) (es : List RangeEnd) → IsSortedByPoint es → IsPartitionedBy (is_at_most b) es
IsPartitionedBy-at_most b es sorted =
    parted AtMost (is_at_most b) es sorted (λ x y s e f. circle (point_of x) (point_of y) b s (at_most-true b y e) (at_most-false b x f))

pub IsPartitionedBy-less : (b : Boundary ℕ) (es : List RangeEnd) → IsSortedByPoint es → IsPartitionedBy (is_less b) es
IsPartitionedBy-less b es sorted =
    parted AtMost (is_less b) es sorted (λ x y s e f. circle b (point_of x) (point_of y) (less-false b x f) s (less-true b y e))

-- and those of nodes alone
pub IsPartitionedBy-from : (n : ℕ) (es : List RangeEnd) → IsSortedByNode es → IsPartitionedBy (λ e. leb n e.node) es
IsPartitionedBy-from n es sorted =
    parted (λ (b c : Boundary ℕ). c.node ≤ b.node) (λ e. leb n e.node) es sorted (λ x y s e f. omega (arith, s, leb-true n y.node e, leb-false n x.node f))

pub IsPartitionedBy-past : (n : ℕ) (es : List RangeEnd) → IsSortedByNode es → IsPartitionedBy (λ e. ltb n e.node) es
IsPartitionedBy-past n es sorted =
    parted (λ (b c : Boundary ℕ). c.node ≤ b.node) (λ e. ltb n e.node) es sorted (λ x y s e f. omega (arith, s, ltb-true n y.node e, ltb-false n x.node f))

-- a boundary point is not before itself
pub not-less : (b c : Boundary ℕ) → b ≡ c → LessThan b c → ⊥
not-less b c e l = let n : b.node ≡ c.node = ap (λ (x : Boundary ℕ). x.node) e in
    omega (arith, l.1 n, ap (λ (x : Boundary ℕ). x.offset) e)

-- of ends at other nodes than one, or at different nodes, the offsets do not matter
pub AtMostBut-nodes : (node : ℕ) (b c : Boundary ℕ) → c.node ≤ b.node → (b.node ≡ c.node → b.node ≡ node) → AtMostBut node b c
AtMostBut-nodes node b c l h = (l, λ e off. absurd (off (h e)))

-- a relation of boundary points holds of the same ones
pub points_same : (R : Boundary ℕ → Boundary ℕ → Type 0) {x y z w : RangeEnd} → x ≡ z → y ≡ w → R (point_of z) (point_of w) → R (point_of x) (point_of y)
points_same R {y} {z} e f h =
    subst (λ (t : RangeEnd). R (point_of t) (point_of y)) (sym e) (subst (λ (t : RangeEnd). R (point_of z) (point_of t)) (sym f) h)
