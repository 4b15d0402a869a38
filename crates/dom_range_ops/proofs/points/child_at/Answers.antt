use Rattle.dom_range_ops.proofs.Cited.{◌≡◌, ℕ, zero, suc, List, [], ◌∷◌, drop, refl, sym, ◌∙◌, slice_get, first_of, children_of, name_at}
use Rattle.dom_range_ops.proofs.points.child_at.Goals as goal

-- the first item from an index on
first-drop : {X : Type 0} (xs : List X) (k : ℕ) → first_of (drop k xs) ≡ slice_get xs k
first-drop [] zero = refl
first-drop [] (suc k) = refl
first-drop (x ∷ xs) zero = refl
first-drop (x ∷ xs) (suc k) = first-drop xs k

pub returns-clause-value : goal.returns-clause-value
returns-clause-value c =
    let f = c.args.forest.now in
    c.child.ensures.value ∙ sym (first-drop (children_of f.trees (name_at f.names c.args.node)) c.args.index)
