-- The slots of a log that count, when one more is signalled, and when those of an owner are taken.
use Rattle.dom_base.proofs.Std.{◌≡◌, ℕ, suc, ◌+◌, ◌≤◌, Bool, true, false, not, List, [], ◌∷◌, ◌++◌, filter, length, refl, sym, ap, ◌∙◌, arith, nat_le}
use Rattle.dom_base.proofs.Std.{if◌then◌else◌, le-leb, lt-leb}
use Rattle.dom_model.proofs.Model.{Owner, NodeName, owner_eq, is_owned_by, owner_eq-same, owner_eq-true, owner_eq-false, ne-owner_eq}
use Rattle.dom_microtasks.specs.Signalled.{counting}

-- two owners are the same whichever is asked first
pub owner_turned : (a b : Owner) (t : Bool) → owner_eq a b ≡ t → owner_eq b a ≡ t
owner_turned a b true e = ap (λ c. owner_eq c a) (sym (owner_eq-true a b e)) ∙ owner_eq-same a
owner_turned a b false e = ne-owner_eq b a (λ h. owner_eq-false a b e (sym h))

-- a slot that counts comes last
pub counting-push : (since : Owner → ℕ) (i : ℕ) (xs : List NodeName) (x : NodeName) → since x.owner ≤ i + length xs →
    counting since i (xs ++ x ∷ []) ≡ counting since i xs ++ x ∷ []
counting-push since i [] x late = ap (λ (b : Bool). if b then x ∷ [] else []) (le-leb (since x.owner) i (omega (arith, late)))
counting-push since i (y ∷ xs) x late = by (nat_le (since y.owner) i) (counting-push since (suc i) xs x (omega (arith, late)))
  where
    by : (b : Bool) → counting since (suc i) (xs ++ x ∷ []) ≡ counting since (suc i) xs ++ x ∷ [] →
        (if b then y ∷ counting since (suc i) (xs ++ x ∷ []) else counting since (suc i) (xs ++ x ∷ []))
        ≡ (if b then y ∷ counting since (suc i) xs else counting since (suc i) xs) ++ x ∷ []
    by true e = ap (λ ys. y ∷ ys) e
    by false e = e

-- those that count are not more than all
pub counting-few : (since : Owner → ℕ) (i : ℕ) (xs : List NodeName) → length (counting since i xs) ≤ length xs
counting-few since i [] = omega arith
counting-few since i (x ∷ xs) = by (nat_le (since x.owner) i) (counting-few since (suc i) xs)
  where
    by : (b : Bool) → length (counting since (suc i) xs) ≤ length xs →
        length (if b then x ∷ counting since (suc i) xs else counting since (suc i) xs) ≤ suc (length xs)
    by true few = omega (arith, few)
    by false few = omega (arith, few)

-- a slot where an owner's slots are taken: whether it is the owner's, whether it counts now, and whether it counted before
record SlotTaken (p : NodeName → Bool) (x : NodeName) (mine counts counted : Bool) : Type 0 where
  here : p x ≡ not mine
  gone : mine ≡ true → counts ≡ false
  stays : mine ≡ false → counts ≡ counted

-- one place of a log, where the slots behind it are filtered: it goes where it is an owner's, and counts as before where not
taken_at : {p : NodeName → Bool} {x : NodeName} {now : List NodeName} {b c : Bool} (was : List NodeName) → now ≡ filter p was →
    (mine : Bool) → SlotTaken p x mine b c → (if b then x ∷ now else now) ≡ filter p (if c then x ∷ was else was)
taken_at {p} {x} {now} {b} {c} was e true slot = ap (λ t. if t then x ∷ now else now) (slot.gone refl) ∙ (e ∙ by c)
  where
    by : (t : Bool) → filter p was ≡ filter p (if t then x ∷ was else was)
    by true = sym (ap (λ u. if u then x ∷ filter p was else filter p was) slot.here)
    by false = refl
taken_at {p} {x} {now} {b} {c} was e false slot = ap (λ t. if t then x ∷ now else now) (slot.stays refl) ∙ by c
  where
    by : (t : Bool) → (if t then x ∷ now else now) ≡ filter p (if t then x ∷ was else was)
    by true = ap (λ ys. x ∷ ys) e ∙ sym (ap (λ u. if u then x ∷ filter p was else filter p was) slot.here)
    by false = e

-- where the signals of an owner are taken, those that count are those of all others
pub counting-taken : (since : Owner → ℕ) (o : Owner) (n i : ℕ) (xs : List NodeName) → i + length xs ≤ n →
    counting (λ p. if owner_eq o p then n else since p) i xs ≡ filter (λ x. not (is_owned_by o x)) (counting since i xs)
counting-taken since o n i [] late = refl
counting-taken since o n i (x ∷ xs) late =
    let counts = nat_le (if owner_eq o x.owner then n else since x.owner) i in
    let slot : SlotTaken (λ y. not (is_owned_by o y)) x (owner_eq x.owner o) counts (nat_le (since x.owner) i) = record {
      here = refl;
      gone = λ mine. ap (λ b. nat_le (if b then n else since x.owner) i) (owner_turned x.owner o true mine) ∙ lt-leb n i (omega (arith, late));
      stays = λ other. ap (λ b. nat_le (if b then n else since x.owner) i) (owner_turned x.owner o false other);
    } in
    taken_at (counting since (suc i) xs) (counting-taken since o n (suc i) xs (omega (arith, late))) (owner_eq x.owner o) slot
