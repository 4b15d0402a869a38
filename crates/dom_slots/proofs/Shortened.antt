-- Names without one.
use Rattle.dom_base.proofs.Std.{◌≡◌, inl, inr, not, List, [], ◌∷◌, refl, ap, ◌∙◌, if◌then◌else◌}
use Rattle.dom_model.proofs.Model.{NodeName, name_eq-other}
use Rattle.dom_laws.proofs.Laws.{In}
use Rattle.dom_slots.specs.Definitions.{names_but}

-- without a name that is not there all are
pub but-none : (x : NodeName) (ys : List NodeName) → (In x ys → ⊥) → names_but x ys ≡ ys
but-none x [] off = refl
but-none x (y ∷ ys) off = ap (λ d. if not d then y ∷ names_but x ys else names_but x ys) (name_eq-other x y (λ e. off (inl e))) ∙
    ap (λ zs. y ∷ zs) (but-none x ys (λ i. off (inr i)))
