-- A note whose paragraph was moved before its heading.
use Rattle.std.proofs.Common.{◌≡◌, [], ◌∷◌, Some, ap, ◌∙◌}
use Rattle.dom_base.specs.declared.Owner.TheVariants.{Page}
use Rattle.dom_model.specs.Names.{node_of}
use Rattle.dom_model.specs.Tree.{children_of}
use Rattle.dom_model.specs.TreeChanges.{placed, taken_out}
use Rattle.dom_tree.specs.Definitions.{NamedTrees, name_at}
use Rattle.dom_callers.specs.Notes.{written_note}

-- the children of its article
pub children-turned : (f g : NamedTrees) → f ≡ written_note →
    g.trees ≡ placed (name_at f.names 3) (name_at f.names 1) (Some (name_at f.names 2)) (taken_out (name_at f.names 3) f.trees) →
    children_of g.trees (node_of Page 1) ≡ node_of Page 3 ∷ node_of Page 2 ∷ []
children-turned f g note trees =
    let moved = λ (h : NamedTrees). placed (name_at h.names 3) (name_at h.names 1) (Some (name_at h.names 2)) (taken_out (name_at h.names 3) h.trees) in
    let turned = λ (h : NamedTrees). children_of (moved h) (node_of Page 1) in
    ap (λ ts. children_of ts (node_of Page 1)) trees ∙ ap turned note
