-- The roots, in the order of their names, and how they change.
use Rattle.dom_base.proofs.Std.{◌≡◌, ◌≢◌, inl, inr, ℕ, zero, suc, ◌+◌, ◌<◌, ◌≤◌, Bool, true, false, cond, ◌&&◌, ◌||◌, eqb, List, [], ◌∷◌, ◌++◌, length, refl}
use Rattle.dom_base.proofs.Std.{sym, ap, subst, ◌∙◌, arith, true≢false, append-nil, filter, range_with_len, eq-eqb, eqb-true, both_ways, or_cases, or_parts}
use Rattle.dom_base.proofs.Std.{or_left, or_right, cases_Bool, false_from_ne_true, and_parts, eqb_tells, filter-append, slice_get-get_or}
use Rattle.dom_model.proofs.Model.{name_before, Node}
use Rattle.node_arena.specs.Nodes.{contains, IsOnce, without}
use Rattle.node_arena.proofs.Lists.{contains-append, contains-head, Split, split_at, Beside, IsOnce-closed, without-absent}
use Rattle.dom_tree.specs.Definitions.{node_at, put_key, in_order}
use Rattle.dom_tree.proofs.Names.{name_before-trans, name_before-turned}
use Rattle.dom_tree.proofs.Rows.{IsNamed, Each, name_of_key}

-- ---- a list of keys in the order of their names

pub or_turned : (x y z : Bool) → (x || (y || z)) ≡ (y || (x || z))
or_turned true true z = refl
or_turned x y z = refl

pub contains-put_key : (nodes : List Node) (c : ℕ) (ks : List ℕ) (k : ℕ) → contains (put_key nodes c ks) k ≡ (eqb c k || contains ks k)
contains-put_key nodes c [] k = refl
contains-put_key nodes c (j ∷ ks) k = elim (cases_Bool (name_before (name_of_key nodes c) (name_of_key nodes j))) [
  | inl e ↦ rw e refl
  | inr e ↦ rw (e, contains-put_key nodes c ks k) (or_turned (eqb j k) (eqb c k) (contains ks k))
]

pub contains-in_order : (nodes : List Node) (ks : List ℕ) (k : ℕ) → contains (in_order nodes ks) k ≡ contains ks k
contains-in_order nodes [] k = refl
contains-in_order nodes (j ∷ ks) k = contains-put_key nodes j (in_order nodes ks) k ∙ ap (λ b. eqb j k || b) (contains-in_order nodes ks k)

-- two keys of different names may be put in either first
put_key_comm : (nodes : List Node) (a b : ℕ) → (name_of_key nodes a ≡ name_of_key nodes b → ⊥) → (ks : List ℕ) →
    put_key nodes a (put_key nodes b ks) ≡ put_key nodes b (put_key nodes a ks)
put_key_comm nodes a b other [] =
    let turn = name_before-turned (name_of_key nodes a) (name_of_key nodes b) other in
    elim (cases_Bool (name_before (name_of_key nodes a) (name_of_key nodes b))) [
      | inl e ↦ rw (turn, e) refl
      | inr e ↦ rw (turn, e) refl
    ]
put_key_comm nodes a b other (k ∷ ks) =
    let turn = name_before-turned (name_of_key nodes a) (name_of_key nodes b) other in
    elim (cases_Bool (name_before (name_of_key nodes a) (name_of_key nodes k))) [
      | inl ak ↦ elim (cases_Bool (name_before (name_of_key nodes b) (name_of_key nodes k))) [
        | inl bk ↦ elim (cases_Bool (name_before (name_of_key nodes a) (name_of_key nodes b))) [
          | inl e ↦ let f : name_before (name_of_key nodes b) (name_of_key nodes a) ≡ false = turn ∙ ap (λ c. cond c false true) e in rw (bk, ak, e, f, bk) refl
          | inr e ↦ let f : name_before (name_of_key nodes b) (name_of_key nodes a) ≡ true = turn ∙ ap (λ c. cond c false true) e in rw (bk, ak, e, f) refl
        ]
        | inr bk ↦
            let f : name_before (name_of_key nodes b) (name_of_key nodes a) ≡ false =
            false_from_ne_true _ (λ h. both_ways _ bk (name_before-trans (name_of_key nodes b) (name_of_key nodes a) (name_of_key nodes k) h ak)) in
            rw (bk, ak, f, bk) refl
      ]
      | inr ak ↦ elim (cases_Bool (name_before (name_of_key nodes b) (name_of_key nodes k))) [
        | inl bk ↦
            let f : name_before (name_of_key nodes a) (name_of_key nodes b) ≡ false =
            false_from_ne_true _ (λ h. both_ways _ ak (name_before-trans (name_of_key nodes a) (name_of_key nodes b) (name_of_key nodes k) h bk)) in
            rw (bk, ak, f, bk) refl
        | inr bk ↦ rw (bk, ak, bk) (ap (λ ys. k ∷ ys) (put_key_comm nodes a b other ks))
      ]
    ]

-- so a key may be put in last
in_order-between : (nodes : List Node) (c : ℕ) (front back : List ℕ) → Each (λ k. name_of_key nodes c ≡ name_of_key nodes k → ⊥) front
    → in_order nodes (front ++ c ∷ back) ≡ put_key nodes c (in_order nodes (front ++ back))
in_order-between nodes c [] back other = refl
in_order-between nodes c (k ∷ front) back other =
    ap (put_key nodes k) (in_order-between nodes c front back (λ j found. other j (or_right (eqb k j) (contains front j) found)))
    ∙ put_key_comm nodes k c (λ e. other k (contains-head k front) (sym e)) (in_order nodes (front ++ back))

without-put_key : (nodes : List Node) (c : ℕ) (ks : List ℕ) → contains ks c ≡ false → without c (put_key nodes c ks) ≡ ks
without-put_key nodes c [] absent = rw (eq-eqb c c refl)
without-put_key nodes c (k ∷ ks) absent =
    let parts = or_parts (eqb k c) (contains ks c) absent in
    elim (cases_Bool (name_before (name_of_key nodes c) (name_of_key nodes k))) [
      | inl e ↦ rw (e, eq-eqb c c refl, parts.0) (ap (λ ys. k ∷ ys) (without-absent c ks parts.1))
      | inr e ↦ rw (e, parts.0) (ap (λ ys. k ∷ ys) (without-put_key nodes c ks parts.1))
    ]

-- the order depends on the names alone
put_key-same : (nodes others : List Node) (c : ℕ) (ks : List ℕ) → name_of_key nodes c ≡ name_of_key others c →
    Each (λ k. name_of_key nodes k ≡ name_of_key others k) ks → put_key nodes c ks ≡ put_key others c ks
put_key-same nodes others c [] here each = refl
put_key-same nodes others c (k ∷ ks) here each =
    rw (here, each k (contains-head k ks), put_key-same nodes others c ks here (λ j found. each j (or_right (eqb k j) (contains ks j) found)))

pub in_order-same : (nodes others : List Node) (ks : List ℕ) → Each (λ k. name_of_key nodes k ≡ name_of_key others k) ks →
    in_order nodes ks ≡ in_order others ks
in_order-same nodes others [] each = refl
in_order-same nodes others (k ∷ ks) each =
    let rest : Each (λ j. name_of_key nodes j ≡ name_of_key others j) ks = λ j found. each j (or_right (eqb k j) (contains ks j) found) in
    ap (put_key nodes k) (in_order-same nodes others ks rest)
    ∙ put_key-same nodes others k (in_order others ks) (each k (contains-head k ks)) (λ j found. rest j (sym (contains-in_order others ks j) ∙ found))

-- ---- the keys that pass a test

filter-same : (p q : ℕ → Bool) (ks : List ℕ) → Each (λ k. p k ≡ q k) ks → filter p ks ≡ filter q ks
filter-same p q [] each = refl
filter-same p q (k ∷ ks) each =
    let rest = filter-same p q ks (λ j found. each j (or_right (eqb k j) (contains ks j) found)) in
    let here = each k (contains-head k ks) in
    elim (cases_Bool (q k)) [
      | inl e ↦ rw (here, e) (ap (λ ys. k ∷ ys) rest)
      | inr e ↦ rw (here, e) rest
    ]

pub contains-filter : (p : ℕ → Bool) (ks : List ℕ) (k : ℕ) → contains (filter p ks) k ≡ (contains ks k && p k)
contains-filter p [] k = refl
contains-filter p (j ∷ ks) k = elim (eqb_tells j k) [
  | inl h ↦ elim (cases_Bool (p j)) [
    | inl e ↦ let f : p k ≡ true = ap p (sym h.1) ∙ e in rw (e, h.0, f) refl
    | inr e ↦ let f : p k ≡ false = ap p (sym h.1) ∙ e in rw (e, h.0, f) (contains-filter p ks k ∙ none (contains ks k) (p k) f)
  ]
  | inr h ↦ elim (cases_Bool (p j)) [
    | inl e ↦ rw (e, h.0) (contains-filter p ks k)
    | inr e ↦ rw (e, h.0) (contains-filter p ks k)
  ]
]
  where
    none : (x y : Bool) → y ≡ false → (x && y) ≡ false
    none true y e = e
    none false y e = refl

contains-range : (a n k : ℕ) → a ≤ k → k < a + n → contains (range_with_len a n) k ≡ true
contains-range a zero k low high = absurd (omega arith)
contains-range a (suc n) k low high = elim (eqb_tells a k) [
  | inl h ↦ or_left (eqb a k) _ h.0
  | inr h ↦ or_right (eqb a k) _ (contains-range (a + 1) n k (omega (arith, h.1)) (omega arith))
]

range-within : (a n k : ℕ) → contains (range_with_len a n) k ≡ true → (a ≤ k) × (k < a + n)
range-within a zero k found = absurd (true≢false (sym found))
range-within a (suc n) k found = elim (or_cases (eqb a k) _ found) [
  | inl h ↦ let e = eqb-true a k h in (omega arith, omega arith)
  | inr h ↦ let more = range-within (a + 1) n k h in (omega (arith, more.0), omega (arith, more.1))
]

pub IsOnce-range : (a n : ℕ) → IsOnce (range_with_len a n)
IsOnce-range a zero = tt
IsOnce-range a (suc n) = (false_from_ne_true _ (λ found. omega (arith, (range-within (a + 1) n a found).0)), IsOnce-range (a + 1) n)

pub range-push : (a n k : ℕ) → a + n ≡ k → range_with_len a (suc n) ≡ range_with_len a n ++ k ∷ []
range-push a zero k e = let at : a ≡ k = omega arith in ap (λ j. j ∷ []) at
range-push a (suc n) k e = ap (λ ks. a ∷ ks) (range-push (a + 1) n k (omega arith))

-- the keys below n that pass, in order
abbrev pub passing : List Node → (ℕ → Bool) → ℕ → List ℕ
passing nodes p n = in_order nodes (filter p (range_with_len 0 n))

pub contains-passing : (nodes : List Node) (p : ℕ → Bool) (n k : ℕ) → k < n → p k ≡ true → contains (passing nodes p n) k ≡ true
contains-passing nodes p n k within e =
    contains-in_order nodes (filter p (range_with_len 0 n)) k
    ∙ (contains-filter p (range_with_len 0 n) k ∙ rw (contains-range 0 n k (omega arith) (omega arith), e) refl)

pub passing-within : (nodes : List Node) (p : ℕ → Bool) (n k : ℕ) → contains (passing nodes p n) k ≡ true → (k < n) × (p k ≡ true)
passing-within nodes p n k found =
    let parts = and_parts (contains (range_with_len 0 n) k) (p k)
    (sym (contains-filter p (range_with_len 0 n) k) ∙ (sym (contains-in_order nodes (filter p (range_with_len 0 n)) k) ∙ found)) in
    let within = range-within 0 n k parts.0 in
    (omega (arith, within.1), parts.1)

pub passing_range : (p : ℕ → Bool) (n k : ℕ) → contains (filter p (range_with_len 0 n)) k ≡ true → k < n
passing_range p n k found =
    let parts = and_parts (contains (range_with_len 0 n) k) (p k) (sym (contains-filter p (range_with_len 0 n) k) ∙ found) in
    let within = range-within 0 n k parts.0 in
    omega (arith, within.1)

pub passing-same : (nodes : List Node) (p q : ℕ → Bool) (n : ℕ) → ((k : ℕ) → k < n → p k ≡ q k) → passing nodes p n ≡ passing nodes q n
passing-same nodes p q n same =
    ap (in_order nodes) (filter-same p q (range_with_len 0 n) (λ k found. let within = range-within 0 n k found in same k (omega (arith, within.1))))

-- one key more passes the second test than the first one
pub record PassesMore (p q : ℕ → Bool) (c : ℕ) : Type 0 where
  pub out : p c ≡ false
  pub into : q c ≡ true
  pub same : (k : ℕ) → k ≢ c → q k ≡ p k

pub passing-more : {nodes : List Node} → IsNamed nodes → {p q : ℕ → Bool} {c : ℕ} → PassesMore p q c → (n : ℕ) → length nodes ≡ n → c < n
    → passing nodes q n ≡ put_key nodes c (passing nodes p n)
passing-more {nodes = nodes} named {p = p} {q = q} {c = c} more n paired within =
    ap (in_order nodes) with_c ∙ (in_order-between nodes c (filter p front) (filter p back) other ∙ ap (λ ks. put_key nodes c (in_order nodes ks))
    (sym without_c))
  where
    parts : Split (range_with_len 0 n) c
    parts = split_at (range_with_len 0 n) c (contains-range 0 n c (omega arith) (omega arith))

    front : List ℕ
    front = parts.front

    back : List ℕ
    back = parts.back

    beside : Beside front back c
    beside = IsOnce-closed front back c (subst IsOnce parts.is (IsOnce-range 0 n))

    absent : (contains front c ≡ false) × (contains back c ≡ false)
    absent = or_parts (contains front c) (contains back c) (sym (contains-append front back c) ∙ beside.absent)

    in_front : filter q front ≡ filter p front
    in_front = filter-same q p front (λ k found. more.same k (λ e. both_ways _ absent.0 (ap (contains front) (sym e) ∙ found)))

    in_back : filter q back ≡ filter p back
    in_back = filter-same q p back (λ k found. more.same k (λ e. both_ways _ absent.1 (ap (contains back) (sym e) ∙ found)))

    with_c : filter q (range_with_len 0 n) ≡ filter p front ++ c ∷ filter p back
    with_c = ap (filter q) parts.is ∙ (filter-append q front (c ∷ back) ∙ rw (more.into, in_front, in_back) refl)

    without_c : filter p (range_with_len 0 n) ≡ filter p front ++ filter p back
    without_c = ap (filter p) parts.is ∙ (filter-append p front (c ∷ back) ∙ rw more.out refl)

    other : Each (λ k. name_of_key nodes c ≡ name_of_key nodes k → ⊥) (filter p front)
    other k found e =
        let in_front_k : contains front k ≡ true = (and_parts (contains front k) (p k) (sym (contains-filter p front k) ∙ found)).0 in
        let in_range : contains (range_with_len 0 n) k ≡ true =
        ap (λ ks. contains ks k) parts.is ∙ (contains-append front (c ∷ back) k ∙ or_left (contains front k) _ in_front_k) in
        let below = range-within 0 n k in_range in
        let is : c ≡ k = named.distinct c k (node_at nodes c) (node_at nodes k) (slice_get-get_or nodes c _ (omega arith))
        (slice_get-get_or nodes k _ (omega (arith, below.1))) e in
        both_ways _ absent.0 (ap (contains front) is ∙ in_front_k)

-- and leaves again
pub without-passing : {nodes : List Node} → IsNamed nodes → {p q : ℕ → Bool} {n : ℕ} (c : ℕ) → length nodes ≡ n → c < n → q c ≡ false → ((k : ℕ) → k ≢ c →
    p k ≡ q k)
    → without c (passing nodes p n) ≡ passing nodes q n
without-passing {nodes} named {p} {q} {n} c paired within out same = elim (cases_Bool (p c)) [
  | inl e ↦ ap (without c) (passing-more named (record { out = out; into = e; same = same }) n paired within) ∙ without-put_key nodes c (passing nodes q n) lost
  | inr e ↦ ap (without c) (passing-same nodes p q n (agree e)) ∙ without-absent c (passing nodes q n) lost
]
  where
    lost : contains (passing nodes q n) c ≡ false
    lost = false_from_ne_true _ (λ found. both_ways _ out (passing-within nodes q n c found).1)

    agree : p c ≡ false → (k : ℕ) → k < n → p k ≡ q k
    agree e k below = elim (eqb_tells k c) [
      | inl h ↦ ap p h.1 ∙ (e ∙ (sym out ∙ ap q (sym h.1)))
      | inr h ↦ same k h.1
    ]

-- a key more
pub passing-push : (nodes : List Node) (p : ℕ → Bool) (n : ℕ) → IsNamed nodes → length nodes ≡ suc n → p n ≡ true →
    passing nodes p (suc n) ≡ put_key nodes n (passing nodes p n)
passing-push nodes p n named paired e = ap (in_order nodes) with_n ∙
    (in_order-between nodes n (filter p (range_with_len 0 n)) [] other ∙ ap (λ ks. put_key nodes n (in_order nodes ks))
    (append-nil (filter p (range_with_len 0 n))))
  where
    with_n : filter p (range_with_len 0 (suc n)) ≡ filter p (range_with_len 0 n) ++ n ∷ []
    with_n = ap (filter p) (range-push 0 n n (omega arith)) ∙ (filter-append p (range_with_len 0 n) (n ∷ []) ∙ rw e refl)

    other : Each (λ k. name_of_key nodes n ≡ name_of_key nodes k → ⊥) (filter p (range_with_len 0 n))
    other k found same =
        let parts = and_parts (contains (range_with_len 0 n) k) (p k) (sym (contains-filter p (range_with_len 0 n) k) ∙ found) in
        let below = range-within 0 n k parts.0 in
        let is : n ≡ k = named.distinct n k (node_at nodes n) (node_at nodes k) (slice_get-get_or nodes n _ (omega arith))
        (slice_get-get_or nodes k _ (omega (arith, below.1))) same in
        omega (arith, is, below.1)
