-- The numbers of nodes: how many an owner has, and that each is below that count, where one comes.
use Rattle.dom_mutation.proofs.Cited.{◌≡◌, ℕ, ◌+◌, ◌≤◌, ◌<◌, ◌⊎◌, Bool, true, false, cond, List, [], ◌∷◌, ◌++◌, length, sym, ap, subst, ◌∙◌, inl, inr, arith}
use Rattle.dom_mutation.proofs.Cited.{eq-or-lt_of_le, zero-add, if◌then◌else◌, cond-true, cond-false, length_push, sum_by-append, get_or-append_seam}
use Rattle.dom_mutation.proofs.Cited.{get_or-append, NodeName, Owner, Page, owner_eq, node_of, owner_eq-same, name_at, count_of, AreNumbered}

-- a choice of numbers
pub pick_first : (b : Bool) (m k : ℕ) → b ≡ true → (if b then m else k) ≡ m
pick_first b m k e = cond-true b m k e

pub pick_second : (b : Bool) (m k : ℕ) → b ≡ false → (if b then m else k) ≡ k
pick_second b m k e = cond-false b m k e

-- ---- one name more

-- how many of an owner's
pub count_more : (o : Owner) (names : List NodeName) (x : NodeName) → count_of o (names ++ x ∷ []) ≡ count_of o names + cond (owner_eq x.owner o) 1 0
count_more o names x = sum_by-append (λ y. cond (owner_eq y.owner o) 1 0) names (x ∷ []) ∙
    ap (λ n. count_of o names + n) (zero-add (cond (owner_eq x.owner o) 1 0))

-- it has its owner's next number
pub numbered_more : (names : List NodeName) (o : Owner) → AreNumbered names → AreNumbered (names ++ node_of o (count_of o names) ∷ [])
numbered_more names o numbered k less = at
    (let within : k ≤ length names = omega (arith, length_push names (node_of o (count_of o names))) in eq-or-lt_of_le within)
  where
    grown : (p : Owner) → count_of p names ≤ count_of p (names ++ node_of o (count_of o names) ∷ [])
    grown p = let more = count_more p names (node_of o (count_of o names)) in omega arith

    last : count_of o names < count_of o (names ++ node_of o (count_of o names) ∷ [])
    last = let more = count_more o names (node_of o (count_of o names)) in let one =
        pick_first (owner_eq (node_of o (count_of o names)).owner o) 1 0 (owner_eq-same o) in omega arith

    at : (k ≡ length names) ⊎ (k < length names) →
        (name_at (names ++ node_of o (count_of o names) ∷ []) k).number < count_of (name_at (names ++ node_of o (count_of o names) ∷ []) k).owner
        (names ++ node_of o (count_of o names) ∷ [])
    at (inl same) =
        subst (λ (y : NodeName). y.number < count_of y.owner (names ++ node_of o (count_of o names) ∷ []))
        (sym (ap (name_at (names ++ node_of o (count_of o names) ∷ [])) same ∙ get_or-append_seam names (node_of o (count_of o names)) []
        (node_of Page 0))) last
    at (inr h) =
        subst (λ (y : NodeName). y.number < count_of y.owner (names ++ node_of o (count_of o names) ∷ []))
        (sym (get_or-append names (node_of o (count_of o names) ∷ []) (node_of Page 0) k h))
        (let below = numbered k h in let more = grown (name_at names k).owner in omega arith)
