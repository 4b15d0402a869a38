-- What becomes of tables: records given one after the other, queues emptied, and registrations that are kept.
use Rattle.dom_base.proofs.Std.{◌≡◌, ℕ, zero, suc, ◌<◌, Bool, true, false, not, eqb, List, [], ◌∷◌, ◌++◌, length, map, get_or, set, take, Option, Some, None}
use Rattle.dom_base.proofs.Std.{refl, sym, ap, ◌∙◌, arith, slice_get, unwrap_or, option_map, is_some, Vec, fold, filter, IsDistinct, cond-true, cond-false}
use Rattle.dom_base.proofs.Std.{or_parts, or_from, eq-eqb, ne_eqb, true≢false, append-nil, All-from_recursion}
use Rattle.dom_model.proofs.Model.{is_in, append_once, is_empty, Change as Changed, Registration, interested, record_for, transients_for}
use Rattle.dom_observers.specs.declared.change.Change.{Change}
use Rattle.dom_observers.specs.Definitions.{TablesOf, queue_at, given, told, is_taken, left, change_of}
use Rattle.dom_observers.proofs.Folds.{eqb-turned}
use Rattle.dom_observers.proofs.Gathering.{fold-agree}

-- ---- records that are given

-- one after the other, the queues and the pending observers go their own ways
given-all : (rec : ℕ → Changed ℕ) (t : TablesOf ℕ) (ks : List ℕ)
    → fold (λ s k. given (rec k) s k) t ks
    ≡ record t {
      record_queues = fold (λ queues k. set queues k (queue_at queues k ++ rec k ∷ [])) t.record_queues ks;
      pending = fold (append_once eqb) t.pending ks;
    }
given-all rec t [] = refl
given-all rec t (k ∷ ks) = given-all rec (given (rec k) t k) ks

-- the interested observers get the records of the rule
pub told-fold : (path : List ℕ) (c : Changed ℕ) (t : TablesOf ℕ) (rec : ℕ → Changed ℕ) → ((k : ℕ) → rec k ≡ record_for eqb path t.registrations c k)
    → fold (λ s k. given (rec k) s k) t (interested eqb path t.registrations c) ≡ told eqb path c t
told-fold path c t rec same =
    fold-agree (λ s k. given (rec k) s k) (λ s k. given (record_for eqb path t.registrations c k) s k) (λ s k. ap (λ r. given r s k) (same k)) t
    (interested eqb path t.registrations c)
    ∙ given-all (record_for eqb path t.registrations c) t (interested eqb path t.registrations c)

-- ---- queues that are emptied

-- a write where nothing is
pub set-none : {X : Type 0} (xs : List X) (k : ℕ) (x : X) → slice_get xs k ≡ None → set xs k x ≡ xs
set-none [] k x e = refl
set-none (y ∷ ys) zero x e = cc
set-none (y ∷ ys) (suc k) x e = ap (λ zs. y ∷ zs) (set-none ys k x e)

-- what a write leaves elsewhere
pub slice_get-set_other : {X : Type 0} (xs : List X) (j k : ℕ) (x : X) → eqb k j ≡ false → slice_get (set xs j x) k ≡ slice_get xs k
slice_get-set_other [] j k x e = refl
slice_get-set_other (y ∷ ys) zero zero x e = absurd (true≢false (sym (eq-eqb zero zero refl) ∙ e))
slice_get-set_other (y ∷ ys) zero (suc k) x e = refl
slice_get-set_other (y ∷ ys) (suc j) zero x e = refl
slice_get-set_other (y ∷ ys) (suc j) (suc k) x e =
    slice_get-set_other ys j k x (ne_eqb k j (λ same. true≢false (sym (eq-eqb (suc k) (suc j) (ap suc same)) ∙ e)))

-- the queues of others stay as they are
pub queue_at-emptied : (queues : List (List (Changed ℕ))) (ks : List ℕ) (k : ℕ) → is_in eqb k ks ≡ false →
    queue_at (fold (λ qs j. set qs j []) queues ks) k ≡ queue_at queues k
queue_at-emptied queues [] k e = refl
queue_at-emptied queues (j ∷ ks) k e =
    let parts = or_parts (eqb k j) (is_in eqb k ks) e in
    queue_at-emptied (set queues j []) ks k parts.1 ∙ ap (λ o. unwrap_or o []) (slice_get-set_other queues j k [] parts.0)

-- of numbers that all differ, none stands among those before it
pub not_before : (ks : List ℕ) (i : ℕ) → IsDistinct eqb ks → i < length ks → is_in eqb (get_or ks i 0) (take i ks) ≡ false
unfolding IsDistinct
not_before [] i apart short = absurd (omega arith)
not_before (k ∷ ks) zero apart short = refl
not_before (k ∷ ks) (suc i) apart short =
    or_from (eqb (get_or ks i 0) k) (is_in eqb (get_or ks i 0) (take i ks))
    (eqb-turned (get_or ks i 0) k ∙ All-from_recursion (λ y. eqb k y ≡ false) ks apart.0 i 0 (omega arith))
    (not_before ks i apart.1 (omega arith))

-- the records of a queue, or none
pub unwrapped : {Z : Type 0} (r : Option (Vec Change Z)) (none : Vec Change Z) (queues : List (List (Changed ℕ))) (k : ℕ)
    → option_map (λ v. map change_of v.items) r ≡ slice_get queues k → none.items ≡ [] → map change_of (unwrap_or r none).items ≡ queue_at queues k
unwrapped None none queues k e empty = ap (map change_of) empty ∙ ap (λ o. unwrap_or o []) e
unwrapped (Some v) none queues k e empty = ap (λ o. unwrap_or o []) e

pub there_from : {X : Type 0} (xs : List X) (k : ℕ) → is_some (slice_get xs k) ≡ true → k < length xs
there_from [] k e = absurd (true≢false (sym e))
there_from (x ∷ xs) zero e = omega arith
there_from (x ∷ xs) (suc k) e = let rest = there_from xs k e in omega (arith, rest)

-- ---- what a test keeps of images

pub filter_of_map : {X Y : Type 0} (p : Y → Bool) (h : X → Y) (xs : List X) → map h (filter (λ x. p (h x)) xs) ≡ filter p (map h xs)
filter_of_map p h [] = refl
filter_of_map p h (x ∷ xs) = by (p (h x)) refl (filter_of_map p h xs)
  where
    by : (b : Bool) → p (h x) ≡ b → map h (filter (λ y. p (h y)) xs) ≡ filter p (map h xs) → map h (filter (λ y. p (h y)) (x ∷ xs)) ≡ filter p (map h (x ∷ xs))
    by true e rest =
        ap (map h) (cond-true (p (h x)) (x ∷ filter (λ y. p (h y)) xs) (filter (λ y. p (h y)) xs) e)
        ∙ (ap (λ ys. h x ∷ ys) rest ∙ sym (cond-true (p (h x)) (h x ∷ filter p (map h xs)) (filter p (map h xs)) e))
    by false e rest =
        ap (map h) (cond-false (p (h x)) (x ∷ filter (λ y. p (h y)) xs) (filter (λ y. p (h y)) xs) e)
        ∙ (rest ∙ sym (cond-false (p (h x)) (h x ∷ filter p (map h xs)) (filter p (map h xs)) e))

-- ---- where nobody is interested, and no node gets a transient registration

pub not_taken : (path : List ℕ) (c : Changed ℕ) (t : TablesOf ℕ) → interested eqb path t.registrations c ≡ [] → is_taken eqb path t c ≡ false
not_taken path c t e = ap (λ ks. not (is_empty ks)) e

pub not_told : (path : List ℕ) (c : Changed ℕ) (t : TablesOf ℕ) → interested eqb path t.registrations c ≡ [] → told eqb path c t ≡ t
not_told path c t e =
    let rec = record_for eqb path t.registrations c in
    let after = λ (ks : List ℕ). let s : TablesOf ℕ =
    record t {
      record_queues = fold (λ queues k. set queues k (queue_at queues k ++ rec k ∷ [])) t.record_queues ks;
      pending = fold (append_once eqb) t.pending ks;
    } in s in
    ap after e

pub none_left : (node : ℕ) (path : List ℕ) (t : TablesOf ℕ) → transients_for eqb node path t.registrations ≡ [] → left eqb node path t ≡ t
none_left node path t e =
    ap (λ (rs : List (Registration ℕ)). record t { registrations = t.registrations ++ rs }) e
    ∙ ap (λ (rs : List (Registration ℕ)). record t { registrations = rs }) (append-nil t.registrations)
