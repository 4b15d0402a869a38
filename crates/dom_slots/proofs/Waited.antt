-- Who waits under a name, once others were taken away or put there.
use Rattle.dom_base.proofs.Std.{◌≡◌, ℕ, Bool, true, false, List, [], ◌∷◌, ◌++◌, Option, None, Some, refl, ap, ◌∙◌, Vec, cond, if◌then◌else◌}
use Rattle.dom_base.proofs.Std.{Global, option_map_or}
use Rattle.std.proofs.lemmas.Map.Text.{is_eq-slice_cmp}
use Rattle.std.specs.BTreeMap.{is_at}
use Rattle.std.specs.Cmp.Lexicographic.{slice_cmp}
use Rattle.std.specs.Ordering.{nat_cmp}
use Rattle.dom_attributes.proofs.Attributes.{text_test}
use Rattle.dom_model.proofs.Model.{text_eq}
use Rattle.dom_slots.proofs.Firsts.{text_true}

-- texts of which neither comes before the other
same-text : (xs ys : List ℕ) → is_at (slice_cmp nat_cmp xs) ys ≡ text_eq xs ys
same-text xs ys = is_eq-slice_cmp xs ys ∙ text_test xs ys

-- those in a list, if there is one
abbrev pub listed : Option (Vec ℕ Global) → List ℕ
listed o = option_map_or (λ v. v.items) o []

-- one list is taken away
pub taken-away : (name other : List ℕ) (was now : Option (Vec ℕ Global)) → now ≡ cond (is_at (slice_cmp nat_cmp name) other) None was →
    listed now ≡ (if text_eq name other then [] else listed was)
taken-away name other was now e = ap listed (e ∙ ap (λ b. cond b None was) (same-text name other)) ∙ by (text_eq name other)
  where
    by : (b : Bool) → listed (cond b None was) ≡ (if b then [] else listed was)
    by true = refl
    by false = refl

-- a list is put in the place of another one
module _ (name other : List ℕ) (mid now : Option (Vec ℕ Global)) (list : Vec ℕ Global)
    (e : now ≡ cond (is_at (slice_cmp nat_cmp name) other) (Some list) mid) where
  pub put-in : {rest : List ℕ} → listed mid ≡ rest → listed now ≡ (if text_eq name other then list.items else rest)
  put-in {rest} same = ap listed (e ∙ ap (λ b. cond b (Some list) mid) (same-text name other)) ∙ by (text_eq name other)
    where
      by : (b : Bool) → listed (cond b (Some list) mid) ≡ (if b then list.items else rest)
      by true = refl
      by false = same

  -- one with one more in the place of one that was taken away
  pub put-back : (was : List ℕ → List ℕ) (child : ℕ) → list.items ≡ was name ++ child ∷ [] → listed mid ≡ (if text_eq name other then [] else was other) →
      listed now ≡ (if text_eq name other then was other ++ child ∷ [] else was other)
  put-back was child longer rest = put-in rest ∙ by (text_eq name other) refl
    where
      by : (b : Bool) → text_eq name other ≡ b → (if b then list.items else (if b then [] else was other)) ≡ (if b then was other ++ child ∷ [] else was other)
      by true same = longer ∙ ap (λ a. was a ++ child ∷ []) (text_true name other same)
      by false same = refl
