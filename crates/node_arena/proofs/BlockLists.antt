-- Keys in blocks: where a key of the whole list stands, and what a change of one block makes of that list.
use Rattle.std.proofs.Common.{◌≡◌, ◌≢◌, inl, inr, ℕ, zero, suc, ◌+◌, ◌^◌, ◌<◌, ◌≤◌, true, false, eqb, List, [], ◌∷◌, ◌++◌, length, set, get_or, take}
use Rattle.std.proofs.Common.{Option, Some, None, refl, sym, ap, ◌∙◌, arith, append_assoc, append-nil, length-append, true≢false}
use Rattle.std.specs.Prelude.{slice_get, SomeIff}
use Rattle.std.specs.List.{concat, insert, remove}
use Rattle.std.proofs.lemmas.Bool.{eq-eqb, eqb-true, both_ways, or_left, or_right, false_from_ne_true}
use Rattle.std.proofs.lemmas.Bool.Decides.{eqb_tells}
use Rattle.std.proofs.lemmas.Option.{same_Some}
use Rattle.node_arena.specs.Nodes.{contains, IsOnce, last_from, last_of, place_in, put_before, without}
use Rattle.node_arena.specs.Blocks.{block_of, AreFilled, IsNumbered, IsOnly}
use Rattle.node_arena.proofs.Lists.{contains-append}
use Rattle.node_arena.proofs.Lists.{last_from-append, without-absent}
use Rattle.node_arena.proofs.FirstKnown.{cases_has, place_in-before, place_in-behind, put_before-before, put_before-behind, without-append}

-- ---- where a key stands in one list

pub insert-place : (xs : List ℕ) (c b : ℕ) → contains xs b ≡ true → insert xs (place_in xs b) c ≡ put_before xs c b
insert-place [] c b found = absurd (true≢false (sym found))
insert-place (x ∷ xs) c b found = elim (eqb_tells x b) [
  | inl h ↦ rw h.0
  | inr h ↦ rw h.0 (ap (λ ys. x ∷ ys) (insert-place xs c b (rw h.0 at found)))
]

pub remove-place : (xs : List ℕ) (k : ℕ) → IsOnce xs → contains xs k ≡ true → remove xs (place_in xs k) ≡ without k xs
remove-place [] k once found = absurd (true≢false (sym found))
remove-place (x ∷ xs) k once found = elim (eqb_tells x k) [
  | inl h ↦ rw h.0 (sym (without-absent k xs (ap (contains xs) (sym h.1) ∙ once.0)))
  | inr h ↦ rw h.0 (ap (λ ys. x ∷ ys) (remove-place xs k once.1 (rw h.0 at found)))
]

-- the first place at which a key stands
pub place_in-first : (xs : List ℕ) (i k : ℕ) → ((j : ℕ) → j < i → get_or xs j 0 ≢ k) → i < length xs → get_or xs i 0 ≡ k → place_in xs k ≡ i
place_in-first [] i k other within here = absurd (omega arith)
place_in-first (x ∷ xs) zero k other within here = rw (eq-eqb x k here) refl
place_in-first (x ∷ xs) (suc i) k other within here =
    let apart : eqb x k ≡ false = false_from_ne_true _ (λ same. other 0 (omega arith) (eqb-true x k same)) in
    rw apart (ap suc (place_in-first xs i k (λ j l. other (suc j) (omega arith)) (omega arith) here))

pub contains-at : (xs : List ℕ) (i k : ℕ) → i < length xs → get_or xs i 0 ≡ k → contains xs k ≡ true
contains-at [] i k within here = absurd (omega arith)
contains-at (x ∷ xs) zero k within here = or_left (eqb x k) _ (eq-eqb x k here)
contains-at (x ∷ xs) (suc i) k within here = or_right (eqb x k) _ (contains-at xs i k (omega arith) here)

-- the only place at which a key stands
pub place_in-once : (xs : List ℕ) (i k : ℕ) → IsOnce xs → i < length xs → get_or xs i 0 ≡ k → place_in xs k ≡ i
place_in-once [] i k once within here = absurd (omega arith)
place_in-once (x ∷ xs) zero k once within here = rw (eq-eqb x k here) refl
place_in-once (x ∷ xs) (suc i) k once within here =
    let other : eqb x k ≡ true → ⊥ = λ same. true≢false
    (sym (contains-at xs i k (omega arith) here) ∙ (ap (contains xs) (sym (eqb-true x k same)) ∙ once.0)) in
    rw (false_from_ne_true _ other) (ap suc (place_in-once xs i k once.1 (omega arith) here))

-- ---- the blocks and the whole list

pub contains-concat : (blocks : List (List ℕ)) (b k : ℕ) → contains (block_of blocks b) k ≡ true → contains (concat blocks) k ≡ true
contains-concat [] b k found = absurd (true≢false (sym found))
contains-concat (x ∷ xs) zero k found = contains-append x (concat xs) k ∙ or_left (contains x k) _ found
contains-concat (x ∷ xs) (suc b) k found = contains-append x (concat xs) k ∙ or_right (contains x k) _ (contains-concat xs b k found)

-- a key of the whole list is in a block
pub holding : (blocks : List (List ℕ)) (k : ℕ) → contains (concat blocks) k ≡ true → (b : ℕ) × (contains (block_of blocks b) k ≡ true)
holding [] k found = absurd (true≢false (sym found))
holding (x ∷ xs) k found = elim (cases_has x k) [
  | inl h ↦ (0, h)
  | inr h ↦
      let rest = holding xs k (rw h at (sym (contains-append x (concat xs) k) ∙ found)) in
      (suc rest.0, rest.1)
]

pub absent_from : (blocks : List (List ℕ)) (k : ℕ) → ((b : ℕ) → contains (block_of blocks b) k ≡ true → ⊥) → contains (concat blocks) k ≡ false
absent_from blocks k none = false_from_ne_true _ (λ found. let at = holding blocks k found in none at.0 at.1)

pub absent_in : (blocks : List (List ℕ)) (b k : ℕ) → contains (concat blocks) k ≡ false → contains (block_of blocks b) k ≡ false
absent_in blocks b k absent = false_from_ne_true _ (λ found. both_ways _ absent (contains-concat blocks b k found))

-- a block that has a key is one of the blocks
pub block_within : (blocks : List (List ℕ)) (b k : ℕ) → contains (block_of blocks b) k ≡ true → b < length blocks
block_within [] b k found = absurd (true≢false (sym found))
block_within (x ∷ xs) zero k found = omega arith
block_within (x ∷ xs) (suc b) k found = omega (arith, block_within xs b k found)

-- the block that a key's number names is the only one with the key
pub only : {blocks : List (List ℕ)} {numbers : List ℕ} {n : ℕ} (k : ℕ) → IsNumbered blocks numbers → slice_get numbers k ≡ Some n →
    contains (block_of blocks n) k ≡ true → IsOnly blocks n k
only {n} k numbered e found = record { found = found; others = λ b there. same_Some b n (sym (numbered.numbered b k there) ∙ e) }

only_behind : (x : List ℕ) (xs : List (List ℕ)) (n k : ℕ) → IsOnly (x ∷ xs) (suc n) k → IsOnly xs n k × (contains x k ≡ false)
only_behind x xs n k here = (
  record { found = here.found; others = λ b there. omega (arith, here.others (suc b) there) },
  false_from_ne_true _ (λ there. absurd (omega (arith, here.others 0 there))),
)

only_first : (x : List ℕ) (xs : List (List ℕ)) (k : ℕ) → IsOnly (x ∷ xs) 0 k → contains (concat xs) k ≡ false
only_first x xs k here = absent_from xs k (λ b there. absurd (omega (arith, here.others (suc b) there)))

pub place_in-only : (blocks : List (List ℕ)) (n k : ℕ) → IsOnly blocks n k →
    place_in (concat blocks) k ≡ length (concat (take n blocks)) + place_in (block_of blocks n) k
place_in-only [] n k here = absurd (true≢false (sym here.found))
place_in-only (x ∷ xs) zero k here = place_in-before x (concat xs) k here.found ∙ omega arith
place_in-only (x ∷ xs) (suc n) k here =
    let rest = only_behind x xs n k here in
    omega (arith, place_in-behind x (concat xs) k rest.1, place_in-only xs n k rest.0, length-append x (concat (take n xs)))

pub put_before-only : (blocks : List (List ℕ)) (n c b : ℕ) → IsOnly blocks n b →
    concat (set blocks n (put_before (block_of blocks n) c b)) ≡ put_before (concat blocks) c b
put_before-only [] n c b here = absurd (true≢false (sym here.found))
put_before-only (x ∷ xs) zero c b here = sym (put_before-before x (concat xs) c b here.found)
put_before-only (x ∷ xs) (suc n) c b here =
    let rest = only_behind x xs n b here in
    ap (λ ys. x ++ ys) (put_before-only xs n c b rest.0) ∙ sym (put_before-behind x (concat xs) c b rest.1)

pub without-only : (blocks : List (List ℕ)) (n k : ℕ) → IsOnly blocks n k →
    concat (set blocks n (without k (block_of blocks n))) ≡ without k (concat blocks)
without-only [] n k here = absurd (true≢false (sym here.found))
without-only (x ∷ xs) zero k here =
    ap (λ ys. without k x ++ ys) (sym (without-absent k (concat xs) (only_first x xs k here))) ∙ sym (without-append k x (concat xs))
without-only (x ∷ xs) (suc n) k here =
    let rest = only_behind x xs n k here in
    ap (λ ys. x ++ ys) (without-only xs n k rest.0)
    ∙ (ap (λ ys. ys ++ without k (concat xs)) (sym (without-absent k x rest.1)) ∙ sym (without-append k x (concat xs)))

-- ---- how many keys there are

pub length-put_before : (xs : List ℕ) (c b : ℕ) → length (put_before xs c b) ≡ length xs + 1
length-put_before [] c b = omega arith
length-put_before (x ∷ xs) c b = elim (eqb_tells x b) [
  | inl h ↦ rw h.0 (omega arith)
  | inr h ↦ rw h.0 (omega (arith, length-put_before xs c b))
]

pub length-concat_set : (blocks : List (List ℕ)) (n : ℕ) (ys : List ℕ) → n < length blocks →
    length (concat (set blocks n ys)) + length (block_of blocks n) ≡ length (concat blocks) + length ys
length-concat_set [] n ys within = absurd (omega arith)
length-concat_set (x ∷ xs) zero ys within = omega (arith, length-append ys (concat xs), length-append x (concat xs))
length-concat_set (x ∷ xs) (suc n) ys within =
    omega (arith, length-append x (concat (set xs n ys)), length-append x (concat xs), length-concat_set xs n ys (omega arith))

pub length-concat_more : (blocks : List (List ℕ)) (n : ℕ) → n < length blocks →
    length (concat (take (suc n) blocks)) ≡ length (concat (take n blocks)) + length (block_of blocks n)
length-concat_more [] n within = absurd (omega arith)
length-concat_more (x ∷ xs) zero within = omega (arith, ap (length {A = ℕ}) (append-nil x))
length-concat_more (x ∷ xs) (suc n) within = omega (
  arith,
  length-append x (concat (take (suc n) xs)),
  length-append x (concat (take n xs)),
  length-concat_more xs n (omega arith),
)

pub length-concat_take : (blocks : List (List ℕ)) (n : ℕ) → length (concat (take n blocks)) ≤ length (concat blocks)
length-concat_take blocks zero = omega arith
length-concat_take [] (suc n) = omega arith
length-concat_take (x ∷ xs) (suc n) =
    omega (arith, length-append x (concat (take n xs)), length-append x (concat xs), length-concat_take xs n)

-- the number that a sum is where it fits
pub sum_that_fits : (o : Option ℕ) (n m : ℕ) → o ≡ Some m → SomeIff o (n < 2 ^ 64) n → (n < 2 ^ 64) × (m ≡ n)
sum_that_fits o n m e f = grind arith

-- ---- the ends of the whole list

pub concat-push_last : (blocks : List (List ℕ)) (n : ℕ) (ys : List ℕ) → n + 1 ≡ length blocks →
    concat (set blocks n (block_of blocks n ++ ys)) ≡ concat blocks ++ ys
concat-push_last [] n ys e = absurd (omega arith)
concat-push_last (x ∷ []) zero ys e = append-nil (x ++ ys) ∙ ap (λ zs. zs ++ ys) (sym (append-nil x))
concat-push_last (x ∷ y ∷ xs) zero ys e = absurd (omega arith)
concat-push_last (x ∷ xs) (suc n) ys e = ap (λ zs. x ++ zs) (concat-push_last xs n ys (omega arith)) ∙ sym (append_assoc x (concat xs) ys)

pub concat-push : (blocks : List (List ℕ)) (ys : List ℕ) → concat (blocks ++ ys ∷ []) ≡ concat blocks ++ ys
concat-push [] ys = append-nil ys
concat-push (x ∷ xs) ys = ap (λ zs. x ++ zs) (concat-push xs ys) ∙ sym (append_assoc x (concat xs) ys)

-- the last of the last block is the last of all
pub last_of-concat : (blocks : List (List ℕ)) (n : ℕ) → AreFilled blocks → n + 1 ≡ length blocks → last_of (concat blocks) ≡ last_of (block_of blocks n)
last_of-concat [] n filled e = absurd (omega arith)
last_of-concat (x ∷ []) zero filled e = ap last_of (append-nil x)
last_of-concat (x ∷ y ∷ xs) zero filled e = absurd (omega arith)
last_of-concat (x ∷ []) (suc n) filled e = absurd (omega arith)
last_of-concat (x ∷ y ∷ xs) (suc n) filled e =
    last_from-append None x (concat (y ∷ xs))
    ∙ (behind (last_of x) (y ++ concat xs) (omega (arith, filled 1 (omega arith), length-append y (concat xs)))
    ∙ last_of-concat (y ∷ xs) n (λ b l. filled (suc b) (omega arith)) (omega arith))
  where
    behind : (before : Option ℕ) (zs : List ℕ) → 0 < length zs → last_from before zs ≡ last_of zs
    behind before [] some = absurd (omega arith)
    behind before (z ∷ zs) some = refl
