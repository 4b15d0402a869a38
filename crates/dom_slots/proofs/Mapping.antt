-- The members of lists after nodes were taken out of them and put into them, and the lists of slots beside the slots of nodes.
use Rattle.dom_base.proofs.Std.{◌≡◌, inl, inr, ℕ, zero, suc, ◌+◌, ◌<◌, Bool, true, false, not, ◌&&◌, ◌||◌, List, [], ◌∷◌, ◌++◌, take, length, get_or, Option}
use Rattle.dom_base.proofs.Std.{Some, None, refl, sym, ap, ◌∙◌, true≢false, nat_eq, slice_get, if◌then◌else◌, cases_Bool, eqb-true, eq-eqb, false_from_ne_true}
use Rattle.dom_base.proofs.Std.{take_more, list_any-append, same_Some, none-some, arith, or_left, or_right}
use Rattle.node_arena.specs.Nodes.{put_before, insert_before, without}
use Rattle.dom_model.proofs.Model.{is_in}

-- ---- members

pub nat_eq-turned : (j k : ℕ) → nat_eq j k ≡ nat_eq k j
nat_eq-turned j k = elim (cases_Bool (nat_eq j k)) [
  | inl e ↦ e ∙ sym (eq-eqb k j (sym (eqb-true j k e)))
  | inr e ↦ e ∙ sym (false_from_ne_true (nat_eq k j) (λ i. true≢false (sym (eq-eqb j k (sym (eqb-true k j i))) ∙ e)))
]

-- the members of a list without a node
in-without : (n k : ℕ) (xs : List ℕ) → is_in nat_eq k (without n xs) ≡ (is_in nat_eq k xs && not (nat_eq n k))
in-without n k [] = refl
in-without n k (x ∷ xs) = by (nat_eq x n) refl (nat_eq k x) refl (in-without n k xs)
  where
    gone : (b m : Bool) → (m && not b) ≡ ((b || m) && not b)
    gone true true = refl
    gone b m = refl

    by : (d : Bool) → nat_eq x n ≡ d → (e : Bool) → nat_eq k x ≡ e → is_in nat_eq k (without n xs) ≡ (is_in nat_eq k xs && not (nat_eq n k))
        → is_in nat_eq k (if not d then x ∷ without n xs else without n xs) ≡ ((e || is_in nat_eq k xs) && not (nat_eq n k))
    by true here e is rest =
        let same : nat_eq n k ≡ e = ap (λ j. nat_eq j k) (sym (eqb-true x n here)) ∙ (nat_eq-turned x k ∙ is) in
        rest ∙ (ap (λ b. is_in nat_eq k xs && not b) same ∙ (gone e (is_in nat_eq k xs) ∙ ap (λ b. (e || is_in nat_eq k xs) && not b) (sym same)))
    by false here true is rest =
        ap (λ b. b || is_in nat_eq k (without n xs)) is
        ∙ sym (ap not (ap (nat_eq n) (eqb-true k x is) ∙ (nat_eq-turned n x ∙ here)))
    by false here false is rest = ap (λ b. b || is_in nat_eq k (without n xs)) is ∙ rest

pub taken-member : (n k : ℕ) (d : Bool) (xs : List ℕ) → is_in nat_eq k (if d then without n xs else xs) ≡ (is_in nat_eq k xs && not (d && nat_eq n k))
taken-member n k true xs = in-without n k xs
taken-member n k false xs = sym (and_true (is_in nat_eq k xs))
  where
    and_true : (b : Bool) → (b && true) ≡ b
    and_true true = refl
    and_true false = refl

or_last : (m d : Bool) → (m || (d || false)) ≡ (m || d)
or_last false true = refl
or_last m d = refl

in-put : (n b k : ℕ) (xs : List ℕ) → is_in nat_eq k (put_before xs n b) ≡ (is_in nat_eq k xs || nat_eq n k)
in-put n b k [] = or_last false (nat_eq k n) ∙ nat_eq-turned k n
in-put n b k (x ∷ xs) = by (nat_eq x b) (in-put n b k xs)
  where
    turned : (d e m : Bool) → (d || (e || m)) ≡ ((e || m) || d)
    turned true false true = refl
    turned false false true = refl
    turned d e m = refl

    along : (e m d : Bool) → (e || (m || d)) ≡ ((e || m) || d)
    along true m d = refl
    along false m d = refl

    by : (c : Bool) → is_in nat_eq k (put_before xs n b) ≡ (is_in nat_eq k xs || nat_eq n k) →
        is_in nat_eq k (if c then n ∷ x ∷ xs else x ∷ put_before xs n b) ≡ ((nat_eq k x || is_in nat_eq k xs) || nat_eq n k)
    by true rest = ap (λ d. d || (nat_eq k x || is_in nat_eq k xs)) (nat_eq-turned k n) ∙ turned (nat_eq n k) (nat_eq k x) (is_in nat_eq k xs)
    by false rest = ap (λ m. nat_eq k x || m) rest ∙ along (nat_eq k x) (is_in nat_eq k xs) (nat_eq n k)

-- the members of a list with a node more
pub in-inserted : (n k : ℕ) (before : Option ℕ) (xs : List ℕ) → is_in nat_eq k (insert_before xs n before) ≡ (is_in nat_eq k xs || nat_eq n k)
in-inserted n k (Some b) xs = in-put n b k xs
in-inserted n k None xs = list_any-append (nat_eq k) xs (n ∷ []) ∙
    (or_last (is_in nat_eq k xs) (nat_eq k n) ∙ ap (λ d. is_in nat_eq k xs || d) (nat_eq-turned k n))

pub put-member : (n k : ℕ) (before : Option ℕ) (d : Bool) (xs : List ℕ) →
    is_in nat_eq k (if d then insert_before xs n before else xs) ≡ (is_in nat_eq k xs || (d && nat_eq n k))
put-member n k before true xs = in-inserted n k before xs
put-member n k before false xs = sym (or_false (is_in nat_eq k xs))
  where
    or_false : (b : Bool) → (b || false) ≡ b
    or_false true = refl
    or_false false = refl

-- the first is a member, and of no first one there is none
pub first-member : (xs : List ℕ) (k : ℕ) → slice_get xs 0 ≡ Some k → is_in nat_eq k xs ≡ true
first-member [] k e = absurd (none-some k e)
first-member (x ∷ xs) k e = ap (λ b. b || is_in nat_eq k xs) (eq-eqb k x (sym (same_Some x k e)))

pub no-member : (xs : List ℕ) (k : ℕ) → slice_get xs 0 ≡ None → is_in nat_eq k xs ≡ false
no-member [] k e = refl
no-member (x ∷ xs) k e = absurd (none-some x (sym e))

-- ---- both maps

and_turned : (c d : Bool) → (c && d) ≡ (d && c)
and_turned true true = refl
and_turned false true = refl
and_turned c d = refl

-- a node has just the slots in whose lists it stands
abbrev pub Agree : (ℕ → List ℕ) → (ℕ → List ℕ) → Type 0
Agree lists slots = (k s : ℕ) → is_in nat_eq s (slots k) ≡ is_in nat_eq k (lists s)

module _ (slot n : ℕ) (lists new_lists slots new_slots : ℕ → List ℕ) (agree : Agree lists slots) where
  pub agree-taken_out : ((k : ℕ) → new_lists k ≡ (if nat_eq slot k then without n (lists k) else lists k)) →
      ((k : ℕ) → new_slots k ≡ (if nat_eq n k then without slot (slots k) else slots k)) → Agree new_lists new_slots
  agree-taken_out by_slot by_node k s =
      ap (is_in nat_eq s) (by_node k)
      ∙ (taken-member slot s (nat_eq n k) (slots k)
      ∙ (ap (λ m. m && not (nat_eq n k && nat_eq slot s)) (agree k s)
      ∙ (ap (λ b. is_in nat_eq k (lists s) && not b) (and_turned (nat_eq n k) (nat_eq slot s)) ∙
      sym (ap (is_in nat_eq k) (by_slot s) ∙ taken-member n k (nat_eq slot s) (lists s)))))

  pub agree-put : (before : Option ℕ) → ((k : ℕ) → new_lists k ≡ (if nat_eq slot k then insert_before (lists k) n before else lists k)) →
      ((k : ℕ) → new_slots k ≡ (if nat_eq n k then insert_before (slots k) slot None else slots k)) → Agree new_lists new_slots
  agree-put before by_slot by_node k s =
      ap (is_in nat_eq s) (by_node k)
      ∙ (put-member slot s None (nat_eq n k) (slots k)
      ∙ (ap (λ m. m || (nat_eq n k && nat_eq slot s)) (agree k s)
      ∙ (ap (λ b. is_in nat_eq k (lists s) || b) (and_turned (nat_eq n k) (nat_eq slot s)) ∙
      sym (ap (is_in nat_eq k) (by_slot s) ∙ put-member n k before (nat_eq slot s) (lists s)))))

-- ---- one node after another

-- this slot was taken from these nodes
abbrev pub AreTaken : (ℕ → List ℕ) → ℕ → List ℕ → (ℕ → List ℕ) → Type 0
AreTaken was slot nodes now = (k s : ℕ) → is_in nat_eq s (now k) ≡ (is_in nat_eq s (was k) && not (nat_eq slot s && is_in nat_eq k nodes))

-- this slot was given to these nodes
abbrev pub AreGiven : (ℕ → List ℕ) → ℕ → List ℕ → (ℕ → List ℕ) → Type 0
AreGiven was slot nodes now = (k s : ℕ) → is_in nat_eq s (now k) ≡ (is_in nat_eq s (was k) || (nat_eq slot s && is_in nat_eq k nodes))

-- from no nodes it is taken from none
pub none_taken : (a d : Bool) → a ≡ (a && not (d && false))
none_taken true true = refl
none_taken a d = refl

-- a number that stands at a place of a list is among its members
pub listed-at : (n : ℕ) (nodes : List ℕ) (i : ℕ) → n ≡ get_or nodes i n → i < length nodes → is_in nat_eq n nodes ≡ true
listed-at n [] i at within = absurd (omega (arith, within))
listed-at n (x ∷ xs) zero at within = or_left (nat_eq n x) (is_in nat_eq n xs) (eq-eqb n x at)
listed-at n (x ∷ xs) (suc i) at within = or_right (nat_eq n x) (is_in nat_eq n xs) (listed-at n xs i at (omega (arith, within)))

-- members of the first items and one more
pub in-more : (k : ℕ) (nodes : List ℕ) (i n : ℕ) → n ≡ get_or nodes i n → i < length nodes →
    is_in nat_eq k (take (i + 1) nodes) ≡ (is_in nat_eq k (take i nodes) || nat_eq n k)
in-more k nodes i n at within =
    ap (is_in nat_eq k) (take_more nodes i n within ∙ ap (λ j. take i nodes ++ j ∷ []) (sym at))
    ∙ (list_any-append (nat_eq k) (take i nodes) (n ∷ []) ∙
    (or_last (is_in nat_eq k (take i nodes)) (nat_eq k n) ∙ ap (λ d. is_in nat_eq k (take i nodes) || d) (nat_eq-turned k n)))

module _ (was : ℕ → List ℕ) (slot : ℕ) (nodes : List ℕ) (i n : ℕ) (at : n ≡ get_or nodes i n) (within : i < length nodes) (now next : ℕ → List ℕ) where
  pub taken-more : ((k : ℕ) → next k ≡ (if nat_eq n k then without slot (now k) else now k)) → AreTaken was slot (take i nodes) now →
      AreTaken was slot (take (i + 1) nodes) next
  taken-more updated taken k s =
      ap (is_in nat_eq s) (updated k)
      ∙ (taken-member slot s (nat_eq n k) (now k)
      ∙ (ap (λ m. m && not (nat_eq n k && nat_eq slot s)) (taken k s)
      ∙ (both (is_in nat_eq s (was k)) (nat_eq slot s) (is_in nat_eq k (take i nodes)) (nat_eq n k) ∙
      ap (λ m. is_in nat_eq s (was k) && not (nat_eq slot s && m)) (sym (in-more k nodes i n at within)))))
    where
      both : (a d m e : Bool) → ((a && not (d && m)) && not (e && d)) ≡ (a && not (d && (m || e)))
      both true false m true = refl
      both true true false true = refl
      both a d m e = refl

  pub given-more : ((k : ℕ) → next k ≡ (if nat_eq n k then insert_before (now k) slot None else now k)) → AreGiven was slot (take i nodes) now →
      AreGiven was slot (take (i + 1) nodes) next
  given-more updated given k s =
      ap (is_in nat_eq s) (updated k)
      ∙ (put-member slot s None (nat_eq n k) (now k)
      ∙ (ap (λ m. m || (nat_eq n k && nat_eq slot s)) (given k s)
      ∙ (both (is_in nat_eq s (was k)) (nat_eq slot s) (is_in nat_eq k (take i nodes)) (nat_eq n k) ∙
      ap (λ m. is_in nat_eq s (was k) || (nat_eq slot s && m)) (sym (in-more k nodes i n at within)))))
    where
      both : (a d m e : Bool) → ((a || (d && m)) || (e && d)) ≡ (a || (d && (m || e)))
      both false false m true = refl
      both false true false true = refl
      both a d m e = refl

-- a slot is given another list: it is taken from the nodes of its old list, and given to those of the new one
pub record IsRelisted (slot : ℕ) (list : List ℕ) (lists new_lists slots after : ℕ → List ℕ) : Type 0 where
  pub mid : ℕ → List ℕ
  pub by_slot : (k : ℕ) → new_lists k ≡ (if nat_eq slot k then list else lists k)
  pub taken : AreTaken slots slot (lists slot) mid
  pub given : AreGiven mid slot list after

-- then the lists of slots and the slots of nodes agree as before
pub agree-inserted : {slot : ℕ} {list : List ℕ} {lists new_lists slots after : ℕ → List ℕ} → IsRelisted slot list lists new_lists slots after →
    Agree lists slots → Agree new_lists after
agree-inserted {slot} {list} {lists} step agree k s =
    step.given k s
    ∙ (ap (λ m. m || (nat_eq slot s && is_in nat_eq k list))
    (step.taken k s ∙ ap (λ m. m && not (nat_eq slot s && is_in nat_eq k (lists slot))) (agree k s))
    ∙ (by (nat_eq slot s) refl ∙ sym (ap (is_in nat_eq k) (step.by_slot s))))
  where
    here : (m l : Bool) → ((m && not m) || l) ≡ l
    here true l = refl
    here false l = refl

    there : (m : Bool) → ((m && true) || false) ≡ m
    there true = refl
    there false = refl

    by : (d : Bool) → nat_eq slot s ≡ d →
        ((is_in nat_eq k (lists s) && not (d && is_in nat_eq k (lists slot))) || (d && is_in nat_eq k list)) ≡ is_in nat_eq k
        (if d then list else lists s)
    by true e = ap (λ j. (is_in nat_eq k (lists s) && not (is_in nat_eq k (lists j))) || is_in nat_eq k list) (eqb-true slot s e) ∙
        here (is_in nat_eq k (lists s)) (is_in nat_eq k list)
    by false e = there (is_in nat_eq k (lists s))
