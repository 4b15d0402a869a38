-- Tables as their lists hold them.
use Rattle.dom_base.proofs.Std.{◌≡◌, ℕ, zero, suc, ◌+◌, Bool, true, false, List, [], ◌∷◌, Some, Result, Ok, Err, refl, sym, ap, ◌∙◌, true≢false, arith, nat_eq}
use Rattle.dom_base.proofs.Std.{Vec, if◌then◌else◌, unwrap_or, OnOk, is_err, lookup, eq-eqb, ne_eqb}
use Rattle.dom_slots.specs.Definitions.{list_at, list_of, table_from, table_in}

-- a list is found by its slot
list-from : {A : Type 0} (i k : ℕ) (rows : List (Vec ℕ A)) → list_at rows k ≡ list_of (table_from i rows) (i + k)
list-from i k [] = refl
list-from i zero (v ∷ rows) = here (nat_eq (i + 0) i) (eq-eqb (i + 0) i (omega arith))
  where
    here : (b : Bool) → b ≡ true → v.items ≡ unwrap_or (if b then Some v.items else lookup (nat_eq (i + 0)) (table_from (suc i) rows)) []
    here true e = refl
    here false e = absurd (true≢false (sym e))
list-from i (suc k) (v ∷ rows) =
    later (nat_eq (i + suc k) i) (ne_eqb (i + suc k) i (λ e. omega (arith, e)))
    (list-from (suc i) k rows ∙ ap (list_of (table_from (suc i) rows)) (omega arith))
  where
    later : (b : Bool) → b ≡ false → list_at rows k ≡ list_of (table_from (suc i) rows) (i + suc k) →
        list_at rows k ≡ unwrap_or (if b then Some v.items else lookup (nat_eq (i + suc k)) (table_from (suc i) rows)) []
    later true e rest = absurd (true≢false e)
    later false e rest = rest

pub list-found : {A : Type 0} (k : ℕ) (rows : List (Vec ℕ A)) → list_at rows k ≡ list_of (table_in rows) k
list-found k rows = list-from 0 k rows ∙ ap (list_of (table_in rows)) (omega arith)

-- the lists as a contract sees them, after that of one slot was changed
pub changed-found : {A B : Type 0} (change : List ℕ → List ℕ) (slot : ℕ) (rows : List (Vec ℕ A)) (now : List (Vec ℕ B))
    → ((k : ℕ) → list_at now k ≡ (if nat_eq slot k then change (list_at rows k) else list_at rows k))
    → (k : ℕ) → list_of (table_in now) k ≡ (if nat_eq slot k then change (list_of (table_in rows) k) else list_of (table_in rows) k)
changed-found change slot rows now lists k =
    sym (list-found k now) ∙ (lists k ∙ ap (λ xs. if nat_eq slot k then change xs else xs) (list-found k rows))

-- what holds on success holds where no error is told
pub when-ok : {X E : Type 0} (r : Result X E) (P : Type 0) → is_err r ≡ false → OnOk r P → P
when-ok (Ok x) P e p = p
when-ok (Err x) P e p = absurd (true≢false e)
