-- A command's own tests: what they refuse, and what was not refused.
use Rattle.dom_admission.proofs.Cited.{◌≡◌, ◌⊎◌, ◌↔◌, inl, inr, Bool, true, false, not, [], ◌∷◌, Option, Some, None, Result, Ok, Err, refl, sym, ap, ◌∙◌}
use Rattle.dom_model.proofs.Model.{Fault, Refused, Memory, Refusal, first_refusal}

-- a call that was done, and one that was not
abbrev pub ended : {X : Type 0} → X → Result X Fault
ended x = Ok x

abbrev pub failed : (X : Type 0) → Fault → Result X Fault
failed X f = Err f

-- What a call gives, whose refusal is this; the command's is the same.
module _ {X : Type 0} {v own : Option Refusal} (same : v ≡ own) where
  -- it was refused so
  pub refuses : {f : Fault} → ((r : Refusal) → failed X f ≡ Err (Refused r) → v ≡ Some r) → (r : Refusal) → f ≡ Refused r → own ≡ Some r
  refuses is r h = sym same ∙ is r (ap Err h)

  -- it was done, or memory was refused: there is none
  pub none_stopped : (x : X) → ((r : Refusal) → v ≡ Some r → (ended x ≡ Err (Refused r)) ⊎ (ended x ≡ Err Memory)) → own ≡ None
  none_stopped x h = sym same ∙ by v h
    where
      by : (u : Option Refusal) → ((r : Refusal) → u ≡ Some r → (ended x ≡ Err (Refused r)) ⊎ (ended x ≡ Err Memory)) → u ≡ None
      by None h = refl
      by (Some r) h = either (h r refl)
        where
          either : (ended x ≡ Err (Refused r)) ⊎ (ended x ≡ Err Memory) → Some r ≡ None
          either (inl e) = absurd cc
          either (inr e) = absurd cc

  pub none_refused : (x : X) → ((r : Refusal) → (ended x ≡ Err (Refused r)) ↔ (v ≡ Some r)) → own ≡ None
  none_refused x is = none_stopped x (λ r e. inl ((is r).1 e))

-- What a call gives, which is refused by this test alone; the command's test is the same.
module _ {X : Type 0} {k : Refusal} where
  -- the test held, and it was refused as it says; or memory was refused
  pub held : {P : Type 0} {f : Fault} → (failed X f ≡ Err (Refused k)) ↔ P → (f ≡ Refused k) ⊎ (f ≡ Memory) → (r : Refusal) →
      f ≡ Refused r → P × (k ≡ r)
  held is (inl e) r h = (is.0 (ap Err e), cc)
  held is (inr e) r h = absurd cc

  pub lone_refuses : {b own : Bool} {f : Fault} → b ≡ own → (failed X f ≡ Err (Refused k)) ↔ (b ≡ true) → (f ≡ Refused k) ⊎ (f ≡ Memory) →
      (r : Refusal) → f ≡ Refused r → first_refusal ((own, k) ∷ []) ≡ Some r
  lone_refuses same is other r h = let p = held is other r h in rw (sym same ∙ p.0) (ap Some p.1)

  -- it was done: the test did not hold
  pub lone_passes : {b own : Bool} (x : X) → b ≡ own → (ended x ≡ Err (Refused k)) ↔ (b ≡ true) → first_refusal ((own, k) ∷ []) ≡ None
  lone_passes {own = true} x same is = let no : ended x ≡ Err (Refused k) = is.1 same in absurd cc
  lone_passes {own = false} x same is = refl

-- a test that is to hold, as one that is not to
pub unless : {A : Type 0} {b : Bool} → A ↔ (b ≡ false) → A ↔ (not b ≡ true)
unless {b = true} is = (λ h. sym (is.0 h), λ h. is.1 (sym h))
unless {b = false} is = (λ h. refl, λ h. is.1 refl)
