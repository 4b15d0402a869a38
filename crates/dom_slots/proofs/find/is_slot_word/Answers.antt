use Rattle.dom_base.proofs.Std.{◌≡◌, ℕ, suc, Bool, true, false, ◌&&◌, ◌==◌, List, [], ◌∷◌, length, refl, ap, arith}
use Rattle.dom_model.proofs.Model.{text_eq}
use Rattle.dom_slots.proofs.find.is_slot_word.Goals as goal

-- texts of other lengths are others
longer : (xs ys : List ℕ) → (length xs ≡ length ys → ⊥) → false ≡ text_eq xs ys
longer [] [] h = absurd (h refl)
longer [] (y ∷ ys) h = refl
longer (x ∷ xs) [] h = refl
longer (x ∷ xs) (y ∷ ys) h = by (x == y) (longer xs ys (λ e. h (ap suc e)))
  where
    by : (a : Bool) → false ≡ text_eq xs ys → false ≡ (a && text_eq xs ys)
    by true e = e
    by false e = refl

pub returns-in_default : goal.returns-in_default
returns-in_default c =
    let is = ap length c.as_bytes.ensures.value in
    longer c.args.text.now (115 ∷ 108 ∷ 111 ∷ 116 ∷ []) (λ e. omega (arith, e, is, c.in_default.len_below))

pub returns-in_default-6 : goal.returns-in_default-6
returns-in_default-6 c =
    let is = ap length c.as_bytes.ensures.value in
    longer c.args.text.now (115 ∷ 108 ∷ 111 ∷ 116 ∷ []) (λ e. omega (arith, e, is, c.in_default.len_at_least))
