-- A list whose last item comes first.
use Rattle.std.specs.Prelude.{◌≡◌, List, [], ◌∷◌, ◌++◌}
use Rattle.dom_base.specs.declared.NodeName.{NodeName}

-- x stood behind some names, and then stands before them
abbrev pub HasTurned : NodeName → List NodeName → List NodeName → Type 0
HasTurned x was now = (others : List NodeName) × (was ≡ others ++ x ∷ []) × (now ≡ x ∷ others)
