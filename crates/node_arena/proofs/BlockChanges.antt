-- What the changes of blocks leave of the numbers of keys.
use Rattle.std.proofs.Common.{◌≡◌, ◌≢◌, ◌⊎◌, inl, inr, ℕ, zero, suc, ◌+◌, ◌-◌, ◌<◌, ◌≤◌, true, false, eqb, List, [], ◌∷◌, ◌++◌, length, set, take, drop}
use Rattle.std.proofs.Common.{Some, refl, sym, ap, subst, ◌∙◌, add-one, arith, append_assoc, append-nil, length-append, length-drop, length-set}
use Rattle.std.specs.Prelude.{slice_get}
use Rattle.std.specs.List.{concat, insert, remove}
use Rattle.std.proofs.lemmas.Bool.{eq-eqb, ne_eqb, both_ways, or_left, or_right, or_parts, false_from_ne_true, cases_eq}
use Rattle.std.proofs.lemmas.Bool.Decides.{eqb_tells}
use Rattle.std.proofs.lemmas.List.{length-take-le, take-append-drop, length_push}
use Rattle.std.proofs.lemmas.List.{get_or-set_same, get_or-set_other, get_or_append_left, get_or_past, get_or_push}
use Rattle.std.proofs.lemmas.List.Edits.{length-insert, get_or-insert_below, get_or-insert_at, get_or-insert_above}
use Rattle.std.proofs.lemmas.List.Edits.{length-remove, get_or-remove_below, get_or-remove_above}
use Rattle.std.proofs.lemmas.Option.{same_Some, slice_get_within}
use Rattle.node_arena.specs.Nodes.{contains, IsOnce}
use Rattle.node_arena.specs.Blocks.{block_of, AreApart, AreFilled, AreWritten, IsGained, IsNumbered, IsNumberedBelow, IsSplit}
use Rattle.node_arena.proofs.Lists.{contains-append, IsOnce-append_left, IsOnce-append_right, IsOnce-apart, IsOnce-between}
use Rattle.node_arena.proofs.BlockLists.{absent_in}

-- a number is below another one or not
cases_below : (a b : ℕ) → (a < b) ⊎ (b ≤ a)
cases_below a b = grind arith

-- numbers tell blocks apart
pub AreApart-numbered : (blocks : List (List ℕ)) (numbers : List ℕ) → IsNumbered blocks numbers → AreApart blocks
AreApart-numbered blocks numbers numbered a b k in_a in_b = same_Some a b (sym (numbered.numbered a k in_a) ∙ numbered.numbered b k in_b)

-- ---- a block gets a key

-- a key that was put between others and is not the new one was there
there_before : (front back : List ℕ) (c k : ℕ) → k ≢ c → contains (front ++ c ∷ back) k ≡ true → contains (front ++ back) k ≡ true
there_before [] back c k other found = rw (ne_eqb c k (λ e. other (sym e))) at found
there_before (x ∷ front) back c k other found = elim (cases_eq x k) [
  | inl e ↦ or_left (eqb x k) _ (eq-eqb x k e)
  | inr n ↦ or_right (eqb x k) _ (there_before front back c k other (rw (ne_eqb x k n) at found))
]

-- the numbers with that of the new key
pub record IsWritten (numbers written : List ℕ) (n key : ℕ) : Type 0 where
  pub here : slice_get written key ≡ Some n
  pub others : (k b : ℕ) → k ≢ key → slice_get numbers k ≡ Some b → slice_get written k ≡ Some b

pub IsNumbered-gained : {old new : List (List ℕ)} {numbers written : List ℕ} {n key : ℕ} → IsNumbered old numbers →
    contains (concat old) key ≡ false → IsGained old new n key → IsWritten numbers written n key → IsNumbered new written
IsNumbered-gained {old} {new} {numbers} {written} {n} {key} numbered absent gained is_written = record {
  numbered = λ b k found. elim (cases_eq b n) [
    | inl same ↦ elim (cases_eq k key) [
      | inl e ↦ rw (e, same) is_written.here
      | inr other ↦
          let there : contains (block_of new n) k ≡ true = ap (λ m. contains (block_of new m) k) (sym same) ∙ found in
          let before : contains (gained.front ++ gained.back) k ≡ true =
          there_before gained.front gained.back key k other (ap (λ xs. contains xs k) (sym gained.is) ∙ there) in
          rw same (is_written.others k n other (numbered.numbered n k (ap (λ xs. contains xs k) gained.was ∙ before)))
    ]
    | inr apart ↦
        let there : contains (block_of old b) k ≡ true = ap (λ xs. contains xs k) (sym (gained.others b apart)) ∙ found in
        is_written.others k b (λ e. both_ways _ (absent_in old b key absent) (ap (contains (block_of old b)) (sym e) ∙ there))
        (numbered.numbered b k there)
  ];
  once = λ b. elim (cases_eq b n) [
    | inl same ↦ subst (λ m. IsOnce (block_of new m)) (sym same) (subst IsOnce (sym gained.is)
        (IsOnce-between gained.front gained.back key (subst IsOnce gained.was (numbered.once n))
        (ap (λ xs. contains xs key) (sym gained.was) ∙ absent_in old n key absent)))
    | inr apart ↦ subst IsOnce (sym (gained.others b apart)) (numbered.once b)
  ];
}

pub AreFilled-gained : {old new : List (List ℕ)} {n key : ℕ} → AreFilled old → IsGained old new n key → AreFilled new
AreFilled-gained {old} {new} {n} {key} filled gained b within = elim (cases_eq b n) [
  | inl same ↦
      let long : length (block_of new b) ≡ length (gained.front ++ key ∷ gained.back) =
      ap (λ m. length (block_of new m)) same ∙ ap (length {A = ℕ}) gained.is in
      omega (arith, long, length-append gained.front (key ∷ gained.back))
  | inr apart ↦
      let there : b < length old = elim (gained.size b within) [ inl e ↦ absurd (apart e) | inr l ↦ l ] in
      let long : length (block_of new b) ≡ length (block_of old b) = ap (length {A = ℕ}) (gained.others b apart) in
      omega (arith, long, filled b there)
]

-- a key is put at a place of a block
pub IsGained-set : (blocks : List (List ℕ)) (n i key : ℕ) → n < length blocks → IsGained blocks (set blocks n (insert (block_of blocks n) i key)) n key
IsGained-set blocks n i key within = record {
  front = take i (block_of blocks n);
  back = drop i (block_of blocks n);
  was = sym (take-append-drop i (block_of blocks n));
  is = get_or-set_same blocks n (insert (block_of blocks n) i key) [] within;
  others = λ b apart. get_or-set_other blocks n b (insert (block_of blocks n) i key) [] apart;
  size = λ b l. inr (omega (arith, length-set blocks n (insert (block_of blocks n) i key)));
}

-- a key is put into one more block
pub IsGained-new : (blocks : List (List ℕ)) (n key : ℕ) → n ≡ length blocks → IsGained blocks (blocks ++ (key ∷ []) ∷ []) n key
IsGained-new blocks n key e = record {
  front = [];
  back = [];
  was = get_or_past blocks n [] (omega arith);
  is = get_or_push blocks (key ∷ []) [] n (sym e);
  others = λ b apart. elim (cases_below b (length blocks)) [
    | inl l ↦ get_or_append_left blocks ((key ∷ []) ∷ []) [] b l
    | inr l ↦ get_or_past (blocks ++ (key ∷ []) ∷ []) b [] (omega (arith, length_push blocks (key ∷ []), apart)) ∙ sym (get_or_past blocks b [] l)
  ];
  size = λ b l. elim (cases_eq b n) [ inl same ↦ inl same | inr apart ↦ inr (omega (arith, length_push blocks (key ∷ []), apart)) ];
}

-- ---- a block loses a key

contains-remove : (xs : List ℕ) (i k : ℕ) → contains (remove xs i) k ≡ true → contains xs k ≡ true
contains-remove [] zero k found = found
contains-remove [] (suc i) k found = found
contains-remove (x ∷ xs) zero k found = or_right (eqb x k) _ found
contains-remove (x ∷ xs) (suc i) k found = elim (eqb_tells x k) [
  | inl h ↦ or_left (eqb x k) _ h.0
  | inr h ↦ or_right (eqb x k) _ (contains-remove xs i k (rw h.0 at found))
]

IsOnce-remove : (xs : List ℕ) (i : ℕ) → IsOnce xs → IsOnce (remove xs i)
IsOnce-remove [] zero once = once
IsOnce-remove [] (suc i) once = once
IsOnce-remove (x ∷ xs) zero once = once.1
IsOnce-remove (x ∷ xs) (suc i) once =
    (false_from_ne_true _ (λ found. both_ways _ once.0 (contains-remove xs i x found)), IsOnce-remove xs i once.1)

pub IsNumbered-taken : {blocks : List (List ℕ)} {numbers : List ℕ} (n i : ℕ) → n < length blocks → IsNumbered blocks numbers →
    IsNumbered (set blocks n (remove (block_of blocks n) i)) numbers
IsNumbered-taken {blocks} {numbers} n i within numbered =
    let here = get_or-set_same blocks n (remove (block_of blocks n) i) [] within in
    record {
      numbered = λ b k found. elim (cases_eq b n) [
        | inl e ↦ rw e (numbered.numbered n k (contains-remove (block_of blocks n) i k
            (ap (λ xs. contains xs k) (sym here)
            ∙ subst (λ m. contains (block_of (set blocks n (remove (block_of blocks n) i)) m) k ≡ true) e found)))
        | inr apart ↦ numbered.numbered b k
            (ap (λ xs. contains xs k) (sym (get_or-set_other blocks n b (remove (block_of blocks n) i) [] apart)) ∙ found)
      ];
      once = λ b. elim (cases_eq b n) [
        | inl e ↦ subst (λ m. IsOnce (block_of (set blocks n (remove (block_of blocks n) i)) m)) (sym e)
            (subst IsOnce (sym here) (IsOnce-remove (block_of blocks n) i (numbered.once n)))
        | inr apart ↦ subst IsOnce (sym (get_or-set_other blocks n b (remove (block_of blocks n) i) [] apart)) (numbered.once b)
      ];
    }

-- ---- a block is cut in two

concat-cut : (blocks : List (List ℕ)) (n i : ℕ) → n < length blocks →
    concat (insert (set blocks n (take i (block_of blocks n))) (suc n) (drop i (block_of blocks n))) ≡ concat blocks
concat-cut [] n i within = absurd (omega arith)
concat-cut (x ∷ xs) zero i within =
    sym (append_assoc (take i x) (drop i x) (concat xs)) ∙ ap (λ ys. ys ++ concat xs) (take-append-drop i x)
concat-cut (x ∷ xs) (suc n) i within = ap (λ ys. x ++ ys) (concat-cut xs n i (omega arith))

pub IsSplit-cut : (blocks : List (List ℕ)) (n i : ℕ) → n < length blocks → 0 < i → i < length (block_of blocks n) →
    IsSplit blocks (insert (set blocks n (take i (block_of blocks n))) (n + 1) (drop i (block_of blocks n))) n
IsSplit-cut blocks n i within some more =
    let cut : List (List ℕ) = set blocks n (take i (block_of blocks n)) in
    let tail : List ℕ = drop i (block_of blocks n) in
    let long : length cut ≡ length blocks = length-set blocks n (take i (block_of blocks n)) in
    let first : block_of (insert cut (n + 1) tail) n ≡ take i (block_of blocks n) =
    get_or-insert_below cut (n + 1) tail [] n (omega arith) (omega arith) ∙ get_or-set_same blocks n (take i (block_of blocks n)) [] within in
    let second : block_of (insert cut (n + 1) tail) (n + 1) ≡ tail = get_or-insert_at cut (n + 1) tail [] (omega arith) in
    record {
      keys = rw add-one (concat-cut blocks n i within);
      before = λ b l. get_or-insert_below cut (n + 1) tail [] b (omega arith) (omega arith)
          ∙ get_or-set_other blocks n b (take i (block_of blocks n)) [] (λ e. absurd (omega arith));
      halves = sym (rw (first, second) (take-append-drop i (block_of blocks n)));
      behind = λ b l. get_or-insert_above cut (n + 1) tail [] b (omega arith) (omega arith)
          ∙ get_or-set_other blocks n b (take i (block_of blocks n)) [] (λ e. absurd (omega arith));
      left = omega (arith, ap (length {A = ℕ}) first, length-take-le i (block_of blocks n) (omega arith));
      right = omega (arith, ap (length {A = ℕ}) second, length-drop i (block_of blocks n));
      size = omega (arith, length-insert cut (n + 1) tail (omega arith), long);
      within = within;
    }

-- ---- an empty block is taken out

-- the empty block n has gone, and those behind it have moved down
pub record IsClosed (old new : List (List ℕ)) (n : ℕ) : Type 0 where
  pub before : (b : ℕ) → b < n → block_of new b ≡ block_of old b
  pub behind : (b : ℕ) → n ≤ b → block_of new b ≡ block_of old (b + 1)
  pub size : length new + 1 ≡ length old

pub IsClosed-remove : (blocks : List (List ℕ)) (n : ℕ) → n < length blocks → IsClosed blocks (remove blocks n) n
IsClosed-remove blocks n within = record {
  before = λ b l. get_or-remove_below blocks n [] b l within;
  behind = λ b l. get_or-remove_above blocks n [] b l within;
  size = length-remove blocks n within;
}

pub concat-remove : (blocks : List (List ℕ)) (n : ℕ) → block_of blocks n ≡ [] → concat (remove blocks n) ≡ concat blocks
concat-remove [] zero empty = refl
concat-remove [] (suc n) empty = refl
concat-remove (x ∷ xs) zero empty = rw empty refl
concat-remove (x ∷ xs) (suc n) empty = ap (λ ys. x ++ ys) (concat-remove xs n empty)

-- ---- what is left of the numbers

-- the block that had a key of block b: the same, or one that is a place nearer to the first where b is behind n
record IsFrom (old : List (List ℕ)) (n b k : ℕ) : Type 0 where
  at : ℕ
  found : contains (block_of old at) k ≡ true
  moved : ((at ≡ b) × (b ≤ n)) ⊎ ((at + 1 ≡ b) × (n < b))

-- a number is before n, is n, or is behind it
cases_order : (b n : ℕ) → (b < n) ⊎ ((b ≡ n) ⊎ (n < b))
cases_order b n = grind arith

split_left : (old new : List (List ℕ)) (n k : ℕ) → IsSplit old new n → contains (block_of new n) k ≡ true → contains (block_of old n) k ≡ true
split_left old new n k split found =
    ap (λ xs. contains xs k) split.halves
    ∙ (contains-append (block_of new n) (block_of new (n + 1)) k ∙ or_left (contains (block_of new n) k) _ found)

split_right : (old new : List (List ℕ)) (n k : ℕ) → IsSplit old new n → contains (block_of new (n + 1)) k ≡ true → contains (block_of old n) k ≡ true
split_right old new n k split found =
    ap (λ xs. contains xs k) split.halves
    ∙ (contains-append (block_of new n) (block_of new (n + 1)) k ∙ or_right (contains (block_of new n) k) _ found)

from_split : {old new : List (List ℕ)} {n : ℕ} (b k : ℕ) → IsSplit old new n → contains (block_of new b) k ≡ true → IsFrom old n b k
from_split {old} {new} {n} b k split found = elim (cases_order b n) [
  | inl l ↦ record { at = b; found = ap (λ xs. contains xs k) (sym (split.before b l)) ∙ found; moved = inl (refl, omega arith) }
  | inr (inl e) ↦ record {
    at = b;
    found = subst (λ m. contains (block_of old m) k ≡ true) (sym e)
        (split_left old new n k split (subst (λ m. contains (block_of new m) k ≡ true) e found));
    moved = inl (refl, omega arith);
  }
  | inr (inr l) ↦ later (b - 1) (omega arith)
]
  where
    later : (c : ℕ) → (c + 1 ≡ b) × (n < b) → IsFrom old n b k
    later c h = record {
      at = c;
      found = elim (cases_eq c n) [
        | inl e ↦ subst (λ m. contains (block_of old m) k ≡ true) (sym e)
            (split_right old new n k split (subst (λ m. contains (block_of new m) k ≡ true) (sym (ap (λ m. m + 1) (sym e) ∙ h.0)) found))
        | inr apart ↦ ap (λ xs. contains xs k) (sym (split.behind c (omega (arith, apart))))
            ∙ subst (λ m. contains (block_of new m) k ≡ true) (sym h.0) found
      ];
      moved = inr h;
    }

AreApart-split : (old new : List (List ℕ)) (n : ℕ) → AreApart old → IsOnce (block_of old n) → IsSplit old new n → AreApart new
AreApart-split old new n apart once split a b k in_a in_b =
    let from_a = from_split a k split in_a in
    let from_b = from_split b k split in_b in
    by from_a.moved from_b.moved (apart from_a.at from_b.at k from_a.found from_b.found)
  where
    both : contains (block_of new n) k ≡ true → contains (block_of new (n + 1)) k ≡ true → ⊥
    both left right = both_ways _ (IsOnce-apart (block_of new n) (block_of new (n + 1)) k (subst IsOnce split.halves once) left) right

    at : (c d : ℕ) → c ≡ d → contains (block_of new c) k ≡ true → contains (block_of new d) k ≡ true
    at c d e found = subst (λ m. contains (block_of new m) k ≡ true) e found

    by : {x y : ℕ} → ((x ≡ a) × (a ≤ n)) ⊎ ((x + 1 ≡ a) × (n < a)) → ((y ≡ b) × (b ≤ n)) ⊎ ((y + 1 ≡ b) × (n < b)) → x ≡ y → a ≡ b
    by (inl h) (inl i) e = omega arith
    by (inr h) (inr i) e = omega arith
    by (inl h) (inr i) e = absurd (both (at a n (omega arith) in_a) (at b (n + 1) (omega arith) in_b))
    by (inr h) (inl i) e = absurd (both (at b n (omega arith) in_b) (at a (n + 1) (omega arith) in_a))

-- before the numbers of the blocks behind a cut are written
pub IsNumberedBelow-split : {old new : List (List ℕ)} {numbers : List ℕ} {n : ℕ} → IsNumbered old numbers → IsSplit old new n →
    IsNumberedBelow new numbers (n + 1)
IsNumberedBelow-split {old} {new} {numbers} {n} numbered split = record {
  apart = AreApart-split old new n (AreApart-numbered old numbers numbered) (numbered.once n) split;
  within = λ b k found. let from = from_split b k split found in slice_get_within numbers k from.at (numbered.numbered from.at k from.found);
  numbered = λ b k l found.
      let from = from_split b k split found in
      let same : from.at ≡ b = elim from.moved [ inl h ↦ h.0 | inr h ↦ absurd (omega arith) ] in
      numbered.numbered from.at k from.found ∙ ap Some same;
}

pub IsOnce-split : {old new : List (List ℕ)} {n : ℕ} → ((b : ℕ) → IsOnce (block_of old b)) → IsSplit old new n → (b : ℕ) → IsOnce (block_of new b)
IsOnce-split {old} {new} {n} once split b = elim (cases_order b n) [
  | inl l ↦ subst IsOnce (sym (split.before b l)) (once b)
  | inr (inl e) ↦ subst (λ m. IsOnce (block_of new m)) (sym e)
      (IsOnce-append_left (block_of new n) (block_of new (n + 1)) (subst IsOnce split.halves (once n)))
  | inr (inr l) ↦ later (b - 1) (omega arith)
]
  where
    later : (c : ℕ) → (c + 1 ≡ b) × (n < b) → IsOnce (block_of new b)
    later c h = elim (cases_eq c n) [
      | inl e ↦ subst (λ m. IsOnce (block_of new m)) (ap (λ m. m + 1) (sym e) ∙ h.0)
          (IsOnce-append_right (block_of new n) (block_of new (n + 1)) (subst IsOnce split.halves (once n)))
      | inr apart ↦ subst (λ m. IsOnce (block_of new m)) h.0 (subst IsOnce (sym (split.behind c (omega (arith, apart)))) (once c))
    ]

pub AreFilled-split : {old new : List (List ℕ)} {n : ℕ} → AreFilled old → IsSplit old new n → AreFilled new
AreFilled-split {old} {new} {n} filled split b within = elim (cases_order b n) [
  | inl l ↦ omega (arith, ap (length {A = ℕ}) (split.before b l), filled b (omega (arith, split.within)))
  | inr (inl e) ↦ omega (arith, ap (λ m. length (block_of new m)) e, split.left)
  | inr (inr l) ↦ later (b - 1) (omega arith)
]
  where
    later : (c : ℕ) → (c + 1 ≡ b) × (n < b) → 0 < length (block_of new b)
    later c h = elim (cases_eq c n) [
      | inl e ↦ omega (arith, ap (λ m. length (block_of new m)) (ap (λ m. m + 1) (sym e) ∙ h.0), split.right)
      | inr apart ↦ omega (
        arith,
        ap (λ m. length (block_of new m)) h.0,
        ap (length {A = ℕ}) (split.behind c (omega (arith, apart))),
        filled c (omega (arith, split.size)),
      )
    ]

from_closed : {old new : List (List ℕ)} {n : ℕ} (b k : ℕ) → IsClosed old new n → contains (block_of new b) k ≡ true →
    (a : ℕ) × (contains (block_of old a) k ≡ true) × (((a ≡ b) × (b < n)) ⊎ ((a ≡ b + 1) × (n ≤ b)))
from_closed {n} b k closed found = elim (cases_below b n) [
  | inl l ↦ (b, ap (λ xs. contains xs k) (sym (closed.before b l)) ∙ found, inl (refl, l))
  | inr l ↦ (b + 1, ap (λ xs. contains xs k) (sym (closed.behind b l)) ∙ found, inr (refl, l))
]

-- before the numbers of the blocks behind one that went are written
pub IsNumberedBelow-closed : {old new : List (List ℕ)} {numbers : List ℕ} {n : ℕ} → IsNumbered old numbers → IsClosed old new n →
    IsNumberedBelow new numbers n
IsNumberedBelow-closed {old} {new} {numbers} {n} numbered closed = record {
  apart = λ a b k in_a in_b.
      let from_a = from_closed a k closed in_a in
      let from_b = from_closed b k closed in_b in
      by a b from_a.2 from_b.2 (AreApart-numbered old numbers numbered from_a.0 from_b.0 k from_a.1 from_b.1);
  within = λ b k found. let from = from_closed b k closed found in slice_get_within numbers k from.0 (numbered.numbered from.0 k from.1);
  numbered = λ b k l found. numbered.numbered b k (ap (λ xs. contains xs k) (sym (closed.before b l)) ∙ found);
}
  where
    by : (a b : ℕ) {x y : ℕ} → ((x ≡ a) × (a < n)) ⊎ ((x ≡ a + 1) × (n ≤ a)) → ((y ≡ b) × (b < n)) ⊎ ((y ≡ b + 1) × (n ≤ b)) → x ≡ y → a ≡ b
    by a b (inl h) (inl i) e = omega arith
    by a b (inr h) (inr i) e = omega arith
    by a b (inl h) (inr i) e = absurd (omega arith)
    by a b (inr h) (inl i) e = absurd (omega arith)

pub IsOnce-closed_up : {old new : List (List ℕ)} {n : ℕ} → ((b : ℕ) → IsOnce (block_of old b)) → IsClosed old new n → (b : ℕ) → IsOnce (block_of new b)
IsOnce-closed_up {old} {new} {n} once closed b = elim (cases_below b n) [
  | inl l ↦ subst IsOnce (sym (closed.before b l)) (once b)
  | inr l ↦ subst IsOnce (sym (closed.behind b l)) (once (b + 1))
]

pub AreFilled-closed : {old new : List (List ℕ)} {n : ℕ} → ((b : ℕ) → b ≢ n → b < length old → 0 < length (block_of old b)) → IsClosed old new n →
    AreFilled new
AreFilled-closed {old} {new} {n} filled closed b within = elim (cases_below b n) [
  | inl l ↦ omega (arith, ap (length {A = ℕ}) (closed.before b l), filled b (λ e. absurd (omega arith)) (omega (arith, closed.size)))
  | inr l ↦ omega (arith, ap (length {A = ℕ}) (closed.behind b l), filled (b + 1) (λ e. absurd (omega arith)) (omega (arith, closed.size)))
]

-- ---- the number of one block is written for its keys

slice_get-set_same : (xs : List ℕ) (i y : ℕ) → i < length xs → slice_get (set xs i y) i ≡ Some y
slice_get-set_same [] i y within = absurd (omega arith)
slice_get-set_same (x ∷ xs) zero y within = refl
slice_get-set_same (x ∷ xs) (suc i) y within = slice_get-set_same xs i y (omega arith)

slice_get-set_other : (xs : List ℕ) (i j y : ℕ) → j ≢ i → slice_get (set xs i y) j ≡ slice_get xs j
slice_get-set_other [] i j y other = refl
slice_get-set_other (x ∷ xs) zero zero y other = absurd (other refl)
slice_get-set_other (x ∷ xs) zero (suc j) y other = refl
slice_get-set_other (x ∷ xs) (suc i) zero y other = refl
slice_get-set_other (x ∷ xs) (suc i) (suc j) y other = slice_get-set_other xs i j y (λ e. other (ap suc e))

-- a key's number is written into a list that has room for it, and all numbers that there were
pub IsWritten-set : {numbers : List ℕ} (roomy : List ℕ) (n key : ℕ) → key < length roomy →
    ((k b : ℕ) → slice_get numbers k ≡ Some b → slice_get roomy k ≡ Some b) → IsWritten numbers (set roomy key n) n key
IsWritten-set {numbers} roomy n key within kept = record {
  here = slice_get-set_same roomy key n within;
  others = λ k b other is. slice_get-set_other roomy key k n other ∙ kept k b is;
}

pub AreWritten-more : {old new keys : List ℕ} {number : ℕ} (k : ℕ) → AreWritten old new keys number → k < length old →
    AreWritten old (set new k number) (keys ++ k ∷ []) number
AreWritten-more {old} {new} {keys} {number} k are_written within = record {
  written = λ j found. elim (cases_eq j k) [
    | inl e ↦ rw e (slice_get-set_same new k number (omega (arith, are_written.size)))
    | inr other ↦ slice_get-set_other new k j number other ∙ are_written.written j
        (ap (λ xs. contains xs j) (sym (append-nil keys)) ∙ there_before keys [] k j other found)
  ];
  others = λ j absent.
      let parts = or_parts (contains keys j) (contains (k ∷ []) j) (sym (contains-append keys (k ∷ []) j) ∙ absent) in
      slice_get-set_other new k j number (λ e. both_ways _ parts.1 (or_left (eqb k j) _ (eq-eqb k j (sym e)))) ∙ are_written.others j parts.0;
  size = length-set new k number ∙ are_written.size;
}

-- the numbers of one block more are written
pub IsNumberedBelow-more : {blocks : List (List ℕ)} {old new : List ℕ} {n : ℕ} → IsNumberedBelow blocks old n → AreWritten old new (block_of blocks n) n →
    IsNumberedBelow blocks new (n + 1)
IsNumberedBelow-more {blocks} {old} {new} {n} below are_written = record {
  apart = below.apart;
  within = λ b k found. omega (arith, below.within b k found, are_written.size);
  numbered = λ b k l found. elim (cases_eq b n) [
    | inl e ↦ rw e (are_written.written k (subst (λ m. contains (block_of blocks m) k ≡ true) e found))
    | inr other ↦
        are_written.others k (false_from_ne_true _ (λ there. other (below.apart b n k found there)))
        ∙ below.numbered b k (omega (arith, other)) found
  ];
}
