-- The hosts as a `Slots` holds them, and where they are found.
use Rattle.dom_base.proofs.Std.{◌≡◌, ℕ, Bool, true, false, List, [], ◌∷◌, ◌++◌, Option, None, Some, refl, sym, ◌∙◌, true≢false, arith, nat_eq, find}
use Rattle.dom_base.proofs.Std.{if◌then◌else◌, option_map, eqb-true, eq-eqb, none-some}
use Rattle.dom_slots.specs.Definitions.{ShadowHost}

-- one host more, where none was found by its key, is found by it, and the others as before
module _ (key value : ShadowHost → ℕ) (h : ShadowHost) where
  abbrev look : ℕ → List ShadowHost → Option ℕ
  look k hosts = option_map value (find (λ g. nat_eq k (key g)) hosts)

  pub found-more : (hosts : List ShadowHost) → look (key h) hosts ≡ None → (k : ℕ) →
      (if nat_eq (key h) k then Some (value h) else look k hosts) ≡ look k (hosts ++ h ∷ [])
  found-more [] new k = by (nat_eq (key h) k) (nat_eq k (key h)) (turned (key h) k)
    where
      turned : (a b : ℕ) → nat_eq a b ≡ nat_eq b a
      turned a b = grind arith

      by : (c d : Bool) → c ≡ d → (if c then Some (value h) else None) ≡ option_map value (if d then Some h else None)
      by true true e = refl
      by true false e = absurd (true≢false e)
      by false true e = absurd (true≢false (sym e))
      by false false e = refl
  found-more (g ∷ hosts) new k =
      by (nat_eq k (key g)) (nat_eq (key h) (key g)) (nat_eq (key h) k)
      (λ at here. eq-eqb (key h) (key g) (eqb-true (key h) k here ∙ eqb-true k (key g) at)) new (λ rest. found-more hosts rest k)
    where
      by : (d e c : Bool) → (d ≡ true → c ≡ true → e ≡ true) →
          option_map value (if e then Some g else find (λ f. nat_eq (key h) (key f)) hosts) ≡ None →
          (look (key h) hosts ≡ None → (if c then Some (value h) else look k hosts) ≡ look k (hosts ++ h ∷ [])) →
          (if c then Some (value h) else option_map value (if d then Some g else find (λ f. nat_eq k (key f)) hosts))
          ≡ option_map value (if d then Some g else find (λ f. nat_eq k (key f)) (hosts ++ h ∷ []))
      by d true c both absent rest = absurd (none-some (value g) (sym absent))
      by true false true both absent rest = absurd (true≢false (sym (both refl refl)))
      by true false false both absent rest = refl
      by false false c both absent rest = rest absent
